use Rattle.c_core.proofs.Calling.{idled}
use Rattle.c_core.proofs.checked.CheckedCore.idle.Goals as goal

pub returns : goal.returns
returns c =
    idled c.self.inside.core c.idle.new.self c.self.inside.admitted c.args.self.now c.idle.result c.idle_form.result c.self.view_is c.idle_form.ensures
    c.idle.ensures.fixed c.idle.ensures.answer c.idle.ensures.after c.keeps_bounds.ensures
