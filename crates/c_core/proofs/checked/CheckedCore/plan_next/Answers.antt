use Rattle.c_core.proofs.Calling.{planned_next}
use Rattle.c_core.proofs.checked.CheckedCore.plan_next.Goals as goal

pub returns : goal.returns
returns c =
    planned_next c.self.inside.core c.plan_next.new.self c.self.inside.admitted c.args.self.now c.args.tx c.plan_next.result c.args.answer.now c.plan_next_form.result c.self.view_is c.if-not-has_txn.ensures c.plan_next_form.ensures
    c.plan_next.ensures.fixed c.plan_next.ensures.answer c.plan_next.ensures.after c.keeps_bounds-2.ensures
