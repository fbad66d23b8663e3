use Rattle.std.proofs.Common.{◌≡◌, drop, ltb}
use Rattle.std.specs.List.{list_all}
use Rattle.test_sets.proofs.range.groups_below.Given as goal

abbrev pub invariant-loop-group : goal.invariant-loop-group
invariant-loop-group l =
    list_all (λ g. list_all (λ i. ltb i.0 l.count) g.items) l.groups ≡ list_all (λ g. list_all (λ i. ltb i.0 l.count) g.items) (drop l.group-index l.groups)
