use Rattle.std.proofs.Common.{◌≡◌, get_or, false, not, ◌||◌, drop}
use Rattle.std.specs.List.{list_all}
use Rattle.item_model.specs.Kinds.{is_dated}
use Rattle.txn_compiler.proofs.cycle.are_settled.Given as goal

abbrev pub invariant-loop-parent : goal.invariant-loop-parent
invariant-loop-parent l =
    list_all (λ i. not (is_dated l.items i.0) || get_or l.settled i.0 false) l.parents ≡ list_all (λ i. not (is_dated l.items i.0) || get_or l.settled i.0 false) (drop l.parent-index l.parents)
