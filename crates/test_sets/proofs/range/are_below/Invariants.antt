use Rattle.std.proofs.Common.{◌≡◌, drop, ltb}
use Rattle.std.specs.List.{list_all}
use Rattle.test_sets.proofs.range.are_below.Given as goal

abbrev pub invariant-loop-item : goal.invariant-loop-item
invariant-loop-item l = list_all (λ i. ltb i.0 l.count) l.items ≡ list_all (λ i. ltb i.0 l.count) (drop l.item-index l.items)
