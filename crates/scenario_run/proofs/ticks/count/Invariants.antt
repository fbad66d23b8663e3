use Rattle.std.proofs.Common.{◌≡◌, ◌+◌, map, length, drop}
use Rattle.std.specs.List.{sum}
use Rattle.scenario_run.proofs.ticks.count.Given as goal

abbrev pub invariant-loop-list : goal.invariant-loop-list
invariant-loop-list l = l.count + sum (map length (drop l.list-index l.ticks)) ≡ sum (map length l.ticks)
