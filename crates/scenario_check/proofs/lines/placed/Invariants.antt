use Rattle.std.proofs.Common.{◌≡◌, map, vec_len}
use Rattle.scenario_check.specs.Findings.{what}
use Rattle.scenario_check.proofs.lines.placed.Given as goal

abbrev pub invariant-loop-i : goal.invariant-loop-i
invariant-loop-i l = record {
  same : map what l.findings.items ≡ map what l.initial.findings.items;
  len : vec_len l.findings ≡ l.i-end;
}
