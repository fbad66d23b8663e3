use Rattle.std.proofs.Common.{◌≡◌, ◌++◌}
use Rattle.scenario_check.specs.Warnings.{below, of_item}
use Rattle.scenario_check.proofs.listing.put_items.Given as goal

abbrev pub invariant-loop-item : goal.invariant-loop-item
invariant-loop-item l = l.out.items ≡ l.initial.out.items ++ below (of_item l.items l.txns) l.item
