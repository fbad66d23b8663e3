use Rattle.std.proofs.Common.{◌≡◌, ◌&&◌, drop, ltb}
use Rattle.std.specs.List.{list_all}
use Rattle.test_sets.proofs.range.txns_below.Given as goal

abbrev pub invariant-loop-txn : goal.invariant-loop-txn
invariant-loop-txn l =
    list_all (λ t. list_all (λ i. ltb i.0 l.count) t.reads && list_all (λ i. ltb i.0 l.count) t.writes) l.txns
    ≡ list_all (λ t. list_all (λ i. ltb i.0 l.count) t.reads && list_all (λ i. ltb i.0 l.count) t.writes) (drop l.txn-index l.txns)
