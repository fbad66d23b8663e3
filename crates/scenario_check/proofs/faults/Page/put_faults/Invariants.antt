use Rattle.scenario_check.specs.Findings.{Adds}
use Rattle.scenario_check.proofs.faults.Page.put_faults.Given as goal

abbrev pub invariant-loop-fault : goal.invariant-loop-fault
invariant-loop-fault l = Adds l.is_told l.refusal l.initial.self.out.items l.self.out.items
