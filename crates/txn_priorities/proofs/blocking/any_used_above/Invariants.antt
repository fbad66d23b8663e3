use Rattle.std.proofs.Common.{◌≡◌, drop, nat_le}
use Rattle.std.specs.List.{list_any}
use Rattle.txn_set.specs.Ceilings.{absolute_ceiling}
use Rattle.txn_priorities.specs.Around.{around_set}
use Rattle.txn_priorities.proofs.blocking.any_used_above.Given as goal

abbrev pub invariant-loop-item : goal.invariant-loop-item
invariant-loop-item l =
    list_any (λ i. nat_le 2 (absolute_ceiling (around_set l.set l.prios) i.0)) l.items
    ≡ list_any (λ i. nat_le 2 (absolute_ceiling (around_set l.set l.prios) i.0)) (drop l.item-index l.items)
