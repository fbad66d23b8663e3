use Rattle.std.proofs.Common.{false}
use Rattle.scenario_check.specs.Findings.{Adds}
use Rattle.scenario_check.proofs.faults.Page.put_repeats.Given as goal

abbrev pub invariant-loop : goal.invariant-loop
invariant-loop l = Adds false l.fn.refusal l.initial.self.out.items l.self.out.items
