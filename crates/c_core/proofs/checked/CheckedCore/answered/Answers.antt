use Rattle.c_core.proofs.Calling.{answered}
use Rattle.c_core.proofs.checked.CheckedCore.answered.Goals as goal

pub returns : goal.returns
returns c =
    answered c.self.inside.core c.asked.new.self c.self.inside.admitted c.args.self.now c.args.job c.args.op c.asked.result c.put_reply.new.answer c.self.view_is c.put_reply.ensures
    c.asked.ensures.fixed c.asked.ensures.answer c.asked.ensures.lawful c.keeps_bounds.ensures
