use Rattle.std.proofs.Common.{◌≡◌, drop}
use Rattle.std.specs.List.{list_any}
use Rattle.txn_set.specs.Set.{may_read}
use Rattle.scenario_check.proofs.uses.is_unread.Given as goal

abbrev pub invariant-loop-txn : goal.invariant-loop-txn
invariant-loop-txn l =
    list_any (λ t. may_read t l.item.0) (drop l.txn-index l.txns) ≡ list_any (λ t. may_read t l.item.0) l.txns
