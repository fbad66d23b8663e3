use Rattle.std.proofs.Common.{◌≡◌, ◌<◌, ℕ, length, get_or}
use Rattle.age_bounds.specs.declared.AgeRow.{AgeRow}
use Rattle.age_bounds.specs.Rungs.{IsRung}
use Rattle.core_tests.proofs.ladders.ladder.Given as goal

abbrev pub invariant-loop-i : goal.invariant-loop-i
invariant-loop-i l = record {
  one_each : length l.rows.items ≡ l.i;
  each : (k : ℕ) (d : AgeRow) → k < l.i → IsRung k (get_or l.rows.items k d);
}
