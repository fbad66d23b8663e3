use Rattle.picture_command.specs.Tables.{item_line}
use Rattle.picture_command.proofs.Sums.{more}
use Rattle.picture_command.proofs.items.add_lines.Goals as goal

pub loop-i-preserved : goal.loop-i-preserved
loop-i-preserved c =
    more (item_line c.args.names.now c.args.set.now c.args.ages.now c.args.items.now) _ _ _ c.loop-i.i c.in_ok-add_line.ensures
    c.loop-i.invariant
