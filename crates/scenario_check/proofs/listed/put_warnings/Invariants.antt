use Rattle.std.proofs.Common.{◌≡◌, ◌++◌, map, drop}
use Rattle.scenario_check.specs.declared.found.What.TheVariants.{Warned}
use Rattle.scenario_check.specs.Findings.{what}
use Rattle.scenario_check.proofs.listed.put_warnings.Given as goal

abbrev pub invariant-loop-warning : goal.invariant-loop-warning
invariant-loop-warning l =
    map what l.findings.items ++ map Warned (drop l.warning-index l.warnings)
    ≡ map what l.initial.findings.items ++ map Warned l.warnings
