use Rattle.std.proofs.Common.{map, Option}
use Rattle.scenario_check.specs.declared.found.Refusal.{Refusal}
use Rattle.scenario_check.specs.Findings.{AreOthers, what}
use Rattle.scenario_check.proofs.listed.put_repeats.Given as goal

abbrev pub invariant-loop-member : goal.invariant-loop-member
invariant-loop-member l =
    (refusal : Option Refusal) → AreOthers refusal (map what l.initial.findings.items)
    → AreOthers refusal (map what l.findings.items)
