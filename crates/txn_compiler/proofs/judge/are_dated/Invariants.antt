use Rattle.std.proofs.Common.{◌≡◌, drop}
use Rattle.std.specs.List.{list_all}
use Rattle.item_model.specs.Kinds.{is_dated}
use Rattle.txn_compiler.proofs.judge.are_dated.Given as goal

abbrev pub invariant-loop-item : goal.invariant-loop-item
invariant-loop-item l = list_all (λ i. is_dated l.items i.0) l.group ≡ list_all (λ i. is_dated l.items i.0) (drop l.item-index l.group)
