use Rattle.std.proofs.Common.{◌≡◌, drop}
use Rattle.std.specs.List.{list_any}
use Rattle.item_model.specs.Kinds.{is_dated}
use Rattle.scenario_check.proofs.uses.is_updating.Given as goal

abbrev pub invariant-loop-item : goal.invariant-loop-item
invariant-loop-item l =
    list_any (λ i. is_dated l.items i.0) (drop l.item-index l.txn.writes)
    ≡ list_any (λ i. is_dated l.items i.0) l.txn.writes
