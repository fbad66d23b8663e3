use Rattle.std.proofs.Common.{ℕ, ◌<◌, get_or}
use Rattle.c_forms.proofs.tables.bad_number.Given as goal

abbrev pub invariant-loop-place : goal.invariant-loop-place
invariant-loop-place l = (k : ℕ) (d : ℕ) → k < l.place → get_or l.ids k d < l.count
