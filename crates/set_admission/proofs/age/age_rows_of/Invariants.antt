use Rattle.std.proofs.Common.{◌≡◌, map}
use Rattle.std.specs.List.{range_with_len}
use Rattle.set_admission.specs.Rows.{age_row}
use Rattle.set_admission.proofs.age.age_rows_of.Given as goal

abbrev pub invariant-loop-item : goal.invariant-loop-item
invariant-loop-item l = l.rows.items ≡ map (age_row l.set) (range_with_len 0 l.item)
