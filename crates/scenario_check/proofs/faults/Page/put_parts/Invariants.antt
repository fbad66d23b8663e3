use Rattle.scenario_check.specs.Findings.{Adds}
use Rattle.scenario_check.proofs.faults.Page.put_parts.Given as goal

abbrev pub invariant-loop-part : goal.invariant-loop-part
invariant-loop-part l = Adds l.is_told l.refusal l.initial.self.out.items l.self.out.items
