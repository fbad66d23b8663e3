use Rattle.lock_core.proofs.Stood.{legal_state}
use Rattle.lock_core.proofs.Called.{block_call}
use Rattle.lock_core.proofs.table_calls.block.Goals as goal

pub returns-clause-call : goal.returns-clause-call
returns-clause-call c = λ history h.
    let b = c.requires.blocked history h in
    block_call _ _ _ _ _ history c.args.job c.args.op c.args.by.holder c.args.by.ceiling _ c.push.ensures c.now-tick.ensures c.requires.roomy h b (c.wait.ensures _ _ c.args.op c.args.by.ceiling h.are (legal_state _ history h) b)
