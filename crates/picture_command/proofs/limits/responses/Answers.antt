use Rattle.set_admission.specs.Bounds.{response_of}
use Rattle.picture_command.proofs.Firsts.{firsts_more, there}
use Rattle.picture_command.proofs.limits.responses.Goals as goal

pub loop-i-preserved : goal.loop-i-preserved
loop-i-preserved c =
    firsts_more (response_of c.args.set.now) _ _ c.loop-i.i c.response.result c.in_ok-push.ensures.items
    (there _ _ c.response.ensures) c.loop-i.invariant
