-- The tables have a place for each item and each transaction.
use Rattle.std.proofs.Common.{◌≡◌, List, length, ap, ◌∙◌}
use Rattle.item_model.specs.declared.stored.Stored.{Stored}
use Rattle.txn_set.specs.Set.{Set}
use Rattle.step_journal.specs.State.{State}
use Rattle.core_tables.specs.Seen.{TablesSeen}
use Rattle.core_tables.specs.Tables.{AreTables}
use Rattle.core_tables.specs.Legal.{IsLegalState}
use Rattle.core_tables.proofs.Facts.{known}
use Rattle.core_tables.proofs.Planned.{periods_many, rows_many}

pub record Places (set : Set) (t : TablesSeen) : Type 0 where
  pub items : length t.items ≡ length set.items
  pub periods : length t.calendar.periods ≡ length set.txns
  pub rows : length t.pending.rows ≡ length set.txns
  pub tallies : length t.tallies ≡ length set.txns

pub places : (set : Set) (t : TablesSeen) (s : State) → AreTables set t s → IsLegalState set s → Places set t
places set t s a legal = record {
  items = ap (λ (l : List Stored). length l) a.items ∙ (known set s legal).items;
  periods = periods_many set t s a;
  rows = rows_many set t s a legal;
  tallies = a.tallies.count;
}
