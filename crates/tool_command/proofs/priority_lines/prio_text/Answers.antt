use Rattle.report_text.proofs.RowLaws.{next_row}
use Rattle.tool_command.specs.Priorities.{prio_line}
use Rattle.tool_command.proofs.priority_lines.prio_text.Goals as goal

pub loop-place-preserved : goal.loop-place-preserved
loop-place-preserved c =
    next_row (prio_line c.args.names.now) _ _ _ c.args.prios.now c.loop-place.place 0 c.loop-place-test.true c.in_ok-put_prio.ensures c.loop-place.invariant
