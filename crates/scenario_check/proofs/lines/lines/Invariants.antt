use Rattle.std.proofs.Common.{◌≡◌, ◌++◌, drop}
use Rattle.scenario_check.specs.Texts.{lines_of}
use Rattle.scenario_check.proofs.lines.lines.Given as goal

abbrev pub invariant-loop-finding : goal.invariant-loop-finding
invariant-loop-finding l =
    l.out.items ++ lines_of l.names (drop l.finding-index l.findings) ≡ lines_of l.names l.findings
