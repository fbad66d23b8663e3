use Rattle.std.proofs.Common.{◌≡◌, ◌++◌, drop}
use Rattle.report_text.specs.Rows.{numbered}
use Rattle.tool_command.specs.Priorities.{unplaced_line, unplaced_lines}
use Rattle.tool_command.proofs.priority_lines.put_unplaced.Given as goal

abbrev pub invariant-loop-place : goal.invariant-loop-place
invariant-loop-place l =
    l.out.items ++ numbered (λ place. unplaced_line l.names) l.place (drop l.place l.rows) ≡ l.initial.out.items ++ unplaced_lines l.names l.rows
