use Rattle.std.proofs.Common.{refl, sym}
use Rattle.lock_core.proofs.Stood.{legal_state}
use Rattle.lock_core.proofs.Called.{compute_call, compute_says}
use Rattle.lock_core.proofs.table_calls.counted.Goals as goal

pub returns-clause-answer : goal.returns-clause-answer
returns-clause-answer c = λ _ history h.
    let g = c.requires.granted history h in
    sym (compute_says _ _ _ _ history c.args.job c.requires.roomy h g (c.if-not-compute.ensures.done refl _ h.are (legal_state _ history h) g))

pub returns-clause-call : goal.returns-clause-call
returns-clause-call c = λ _ history h.
    let g = c.requires.granted history h in
    compute_call _ _ _ _ _ history c.args.job _ c.push.ensures c.now-tick.ensures c.requires.roomy h g (c.if-not-compute.ensures.done refl _ h.are (legal_state _ history h) g)
