use Rattle.std.proofs.Common.{◌≡◌, [], map}
use Rattle.std.specs.List.{All}
use Rattle.step_script.specs.Scripts.{program_of, IsTold}
use Rattle.scenario_writer.specs.Generated.{each, program}
use Rattle.scenario_writer.proofs.generate.scripts.Given as goal

abbrev pub invariant-loop-i : goal.invariant-loop-i
invariant-loop-i l = (map program_of l.scripts.items ≡ each (program l.n) l.i) × All
    (λ s. IsTold s 0 []) l.scripts.items
