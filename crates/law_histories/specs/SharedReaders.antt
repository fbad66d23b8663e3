-- Two readers share an item whose writer is lower than both.
use Rattle.std.specs.Prelude.{◌≡◌, List, [], ◌∷◌, take, None, Some, pos}
use Rattle.item_model.specs.declared.decl.ItemKind.TheVariants.{State}
use Rattle.rt_base.specs.declared.operation.Op.TheVariants.{Read, Compute, Commit}
use Rattle.rt_base.specs.declared.operation.Outcome.TheVariants.{Got, Computed, Closed}
use Rattle.rt_base.specs.declared.operation.End.TheVariants.{Committed}
use Rattle.step_journal.specs.declared.entry.Entry.{Entry}
use Rattle.step_journal.specs.declared.entry.Entry.TheVariants.{Planned, Step, Blocked}
use Rattle.txn_set.specs.Set.{Set, IsCompiled, declared}
use Rattle.step_journal.specs.History.{IsLegal, IsLegalEntry, state_of}
use Rattle.law_histories.specs.Ids.{tx, item, job}

unfoldable pub shared_readers : Set
shared_readers = record {
  items = record { kind = State; initial = pos 0 } ∷ [];
  txns =
      declared 3 20 2 (item 0 ∷ []) []
      ∷ declared 2 20 4 (item 0 ∷ []) []
      ∷ declared 1 40 2 [] (item 0 ∷ [])
      ∷ [];
  together = [];
}

unfoldable pub shared_readers_entries : List Entry
shared_readers_entries =
    (Planned (tx 0) 1)
    ∷ (Planned (tx 1) 0)
    ∷ (Step (job 1 0) (Read (item 0)) (Got (pos 0) (Some 0)) None 0)
    ∷ (Step (job 0 0) (Read (item 0)) (Got (pos 0) (Some 0)) None 1)
    ∷ (Step (job 0 0) Commit Closed (Some Committed) 2)
    ∷ (Step (job 1 0) Compute Computed None 3)
    ∷ (Step (job 1 0) Compute Computed None 4)
    ∷ (Step (job 1 0) Commit Closed (Some Committed) 5)
    ∷ []

unfoldable pub shared_reader_refused_before : List Entry
shared_reader_refused_before = take 3 shared_readers_entries

-- a read lock has the write ceiling alone
abbrev pub shared_reader_refused : Entry
shared_reader_refused = Blocked (job 0 0) (Read (item 0)) (job 1 0) 3 1

-- the set compiles, the entries are a legal history of it with these last items, and what a wrong database would do instead
-- is not legal
pub record SharedReadersHolds : Type 0 where
  pub compiled : IsCompiled shared_readers
  pub legal : IsLegal shared_readers shared_readers_entries
  pub items : (state_of shared_readers shared_readers_entries).items ≡ record { value = pos 0; stamp = 0 } ∷ []
  pub shared_reader_refused : ¬ IsLegalEntry shared_readers (state_of shared_readers shared_reader_refused_before) shared_reader_refused
