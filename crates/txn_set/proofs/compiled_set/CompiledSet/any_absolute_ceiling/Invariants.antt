use Rattle.std.proofs.Common.{◌≡◌, drop, nat_le}
use Rattle.std.specs.List.{list_any}
use Rattle.txn_set.specs.Ceilings.{absolute_ceiling}
use Rattle.txn_set.proofs.compiled_set.CompiledSet.any_absolute_ceiling.Given as goal

abbrev pub invariant-loop-item : goal.invariant-loop-item
invariant-loop-item l =
    list_any (λ i. nat_le l.prio (absolute_ceiling l.self i.0)) l.items
    ≡ list_any (λ i. nat_le l.prio (absolute_ceiling l.self i.0)) (drop l.item-index l.items)
