use Rattle.std.proofs.Common.{◌≡◌, drop}
use Rattle.txn_set.specs.Set.{names_item}
use Rattle.txn_set.proofs.decl.names_item.Given as goal

abbrev pub invariant-loop-i : goal.invariant-loop-i
invariant-loop-i l = names_item l.items l.item.0 ≡ names_item (drop l.i-index l.items) l.item.0
