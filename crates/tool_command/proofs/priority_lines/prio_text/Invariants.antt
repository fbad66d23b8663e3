use Rattle.std.proofs.Common.{◌≡◌, ◌++◌, drop}
use Rattle.report_text.specs.Rows.{numbered}
use Rattle.tool_command.specs.Priorities.{prio_line, prio_lines}
use Rattle.tool_command.proofs.priority_lines.prio_text.Given as goal

abbrev pub invariant-loop-place : goal.invariant-loop-place
invariant-loop-place l = l.text.items ++ numbered (prio_line l.names) l.place (drop l.place l.prios) ≡ prio_lines l.names l.prios
