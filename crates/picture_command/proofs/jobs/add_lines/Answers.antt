use Rattle.picture_command.specs.Tables.{txn_line}
use Rattle.picture_command.proofs.Sums.{more}
use Rattle.picture_command.proofs.jobs.add_lines.Goals as goal

pub loop-i-preserved : goal.loop-i-preserved
loop-i-preserved c =
    more (txn_line c.args.names.now c.args.set.now c.args.responses.now c.args.rows.now) _ _ _ c.loop-i.i c.in_ok-add_line.ensures
    c.loop-i.invariant
