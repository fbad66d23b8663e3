use Rattle.std.proofs.Common.{ℕ, ◌<◌, get_or}
use Rattle.c_forms.specs.declared.tables.TogetherRow.{TogetherRow}
use Rattle.c_forms.specs.Rows.{TogetherFits}
use Rattle.c_forms.proofs.tables.bad_together.Given as goal

abbrev pub invariant-loop-place : goal.invariant-loop-place
invariant-loop-place l = (k : ℕ) (d : TogetherRow) → k < l.place → TogetherFits l.count (get_or l.rows k d)
