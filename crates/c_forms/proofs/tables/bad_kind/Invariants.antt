use Rattle.std.proofs.Common.{ℕ, ◌<◌, ◌≤◌, get_or}
use Rattle.c_forms.specs.declared.tables.ItemRow.{ItemRow}
use Rattle.c_forms.proofs.tables.bad_kind.Given as goal

abbrev pub invariant-loop-place : goal.invariant-loop-place
invariant-loop-place l = (k : ℕ) (d : ItemRow) → k < l.place → (get_or l.rows k d).kind ≤ 2
