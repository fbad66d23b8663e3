use Rattle.std.proofs.Common.{◌≡◌, map, take}
use Rattle.std.specs.List.{filter}
use Rattle.item_model.specs.Kinds.{is_dated}
use Rattle.set_admission.proofs.age.dated_reads_of.Given as goal

abbrev pub invariant-loop-item : goal.invariant-loop-item
invariant-loop-item l = l.items.items ≡ map (λ i. i.0) (filter (λ i. is_dated l.set.items i.0) (take l.item-index l.reads))
