use Rattle.std.proofs.Common.{◌≡◌, ◌++◌, drop}
use Rattle.report_text.specs.Rows.{numbered}
use Rattle.scale_margin.specs.Spares.{spare_of}
use Rattle.tool_command.specs.Slacks.{spare_line, spares_of}
use Rattle.tool_command.proofs.slack_lines.put_spares.Given as goal

abbrev pub invariant-loop-place : goal.invariant-loop-place
invariant-loop-place l =
    l.out.items ++ numbered (λ i d. spare_line l.names i (spare_of l.set i)) l.place (drop l.place l.set.items) ≡ l.initial.out.items ++ spares_of l.names l.set
