use Rattle.std.proofs.Common.{refl, sym, ap, ◌∙◌, length}
use Rattle.rt_base.specs.declared.operation.Op.{Op}
use Rattle.board.specs.Histories.{step_answer}
use Rattle.lock_core.proofs.Called.{stepped_calls}
use Rattle.lock_core.proofs.table_calls.step.Goals as goal

pub returns-then-compute-clause-answer : goal.returns-then-compute-clause-answer
returns-then-compute-clause-answer c = λ history h.
    let journal = c.args.journal.now in
    sym (c.if-compute.ensures.answer refl history h)
    ∙ ap (λ (o : Op). step_answer c.args.set.now history (length journal.kept) journal.room c.args.job o) (sym c.in-Compute.is)

pub returns-then-compute-clause-call : goal.returns-then-compute-clause-call
returns-then-compute-clause-call c = λ history h.
    stepped_calls _ _ history c.args.job c.args.op c.in-Compute.is (c.if-compute.ensures.call refl history h)
