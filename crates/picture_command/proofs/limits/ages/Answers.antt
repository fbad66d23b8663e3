use Rattle.picture_command.specs.Limits.{age_or_none}
use Rattle.picture_command.proofs.Firsts.{firsts_more}
use Rattle.picture_command.proofs.limits.ages.Goals as goal

pub loop-i-preserved : goal.loop-i-preserved
loop-i-preserved c =
    firsts_more (age_or_none c.args.set.now) _ _ c.loop-i.i c.age.result c.in_ok-push.ensures.items c.age.ensures
    c.loop-i.invariant
