use Rattle.std.proofs.Common.{sym, ◌∙◌, arith}
use Rattle.step_journal.specs.History.{state_of}
use Rattle.lock_core.proofs.Stood.{legal_state, fit}
use Rattle.lock_core.proofs.Called.{plan_call, plan_room}
use Rattle.lock_core.proofs.table_calls.plan.Goals as goal

pub push-requires : goal.push-requires
push-requires c =
    let is = c.requires.core in
    omega (
      arith,
      plan_room c.args.set.now (state_of c.args.set.now is.history) c.len.result c.room.result c.args.tx.0 c.args.tick c.in-Ok.job (sym (c.plan.ensures.answer _ _ is.stands.are) ∙ c.in-Ok.is),
      c.len.ensures,
      c.room.ensures,
    )

pub returns-in-Ok-clause-call : goal.returns-in-Ok-clause-call
returns-in-Ok-clause-call c = λ history h.
    plan_call _ _ _ _ _ history c.args.tx c.args.tick _ _ c.in-Ok.job c.push.ensures c.requires.in_set c.len.ensures c.room.ensures (sym (c.plan.ensures.answer _ _ h.are) ∙ c.in-Ok.is) (c.in-Ok.ensures.planned _ _ h.are (legal_state _ history h)) h

pub plan-requires-clause-in_set : goal.plan-requires-clause-in_set
plan-requires-clause-in_set c = omega (arith, c.requires.in_set, (fit _ c.requires.core).periods)
