use Rattle.c_core.proofs.Calling.{planned}
use Rattle.c_core.proofs.checked.CheckedCore.plan.Goals as goal

pub returns : goal.returns
returns c =
    planned c.self.inside.core c.plan.new.self c.self.inside.admitted c.args.self.now c.args.tx c.args.tick c.plan.result c.args.answer.now c.plan_form.result c.self.view_is c.if-not-has_txn.ensures c.plan_form.ensures
    c.plan.ensures.fixed c.plan.ensures.answer c.plan.ensures.after c.keeps_bounds-2.ensures
