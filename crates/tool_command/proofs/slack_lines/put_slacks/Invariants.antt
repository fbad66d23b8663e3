use Rattle.std.proofs.Common.{◌≡◌, ◌++◌, drop}
use Rattle.report_text.specs.Rows.{numbered}
use Rattle.tool_command.specs.Slacks.{slack_lines, slack_at, slacks_of}
use Rattle.tool_command.proofs.slack_lines.put_slacks.Given as goal

abbrev pub invariant-loop-place : goal.invariant-loop-place
invariant-loop-place g l =
    l.out.items ++ numbered (λ tx t. slack_lines l.names tx (slack_at l.set tx)) l.place (drop l.place l.set.txns) ≡ l.initial.out.items ++ slacks_of l.names l.set
