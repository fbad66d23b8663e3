use Rattle.std.proofs.Common.{◌≡◌, drop}
use Rattle.std.specs.List.{find}
use Rattle.set_admission.specs.Admission.{is_too_old}
use Rattle.set_admission.proofs.refuse.too_old_of.Given as goal

abbrev pub invariant-loop-item : goal.invariant-loop-item
invariant-loop-item l = find (is_too_old l.set) l.item-items ≡ find (is_too_old l.set) (drop l.item-index l.item-items)
