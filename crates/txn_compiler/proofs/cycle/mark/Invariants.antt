use Rattle.std.proofs.Common.{◌≡◌, ℕ, get_or, false, ◌||◌, ◌&&◌, drop}
use Rattle.item_model.specs.Kinds.{is_dated}
use Rattle.txn_set.specs.Set.{names_item}
use Rattle.txn_compiler.proofs.cycle.mark.Given as goal

abbrev pub invariant-loop-parent : goal.invariant-loop-parent
invariant-loop-parent l =
    (i : ℕ) → (get_or l.marks i false || (is_dated l.items i && names_item (drop l.parent-index l.parents) i)) ≡ (get_or l.initial.marks i false || (is_dated l.items i && names_item l.parents i))
