use Rattle.std.proofs.Common.{◌≡◌, ◌<◌, ℕ, length, get_or}
use Rattle.ceiling_table.specs.Held.{no_ceilings}
use Rattle.core_tables.specs.Rows.{HasCeilings}
use Rattle.core_tables.proofs.pending_openings.ceilings_of.Given as goal

abbrev pub invariant-loop-item : goal.invariant-loop-item
invariant-loop-item l = record {
  size : length l.ceilings.items ≡ l.item;
  ceilings : (item : ℕ) → item < l.item → HasCeilings l.set item (get_or l.ceilings.items item no_ceilings);
}
