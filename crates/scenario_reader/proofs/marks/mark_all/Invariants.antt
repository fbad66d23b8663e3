use Rattle.std.proofs.Common.{◌≡◌, drop}
use Rattle.scenario_reader.specs.Walks.{marked}
use Rattle.scenario_reader.proofs.marks.mark_all.Given as goal

abbrev pub invariant-loop-item : goal.invariant-loop-item
invariant-loop-item l = marked l.marks (drop l.item-index l.items) ≡ marked l.initial.marks l.items
