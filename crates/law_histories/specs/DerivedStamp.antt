-- A derived item is stamped as the oldest value that it is derived from, a state item with the release, and a job reads its
-- own write.
use Rattle.std.specs.Prelude.{◌≡◌, List, [], ◌∷◌, take, None, Some, pos}
use Rattle.item_model.specs.declared.decl.ItemKind.TheVariants.{Sensor, Derived, State}
use Rattle.rt_base.specs.declared.operation.Op.TheVariants.{Read, Write, Commit}
use Rattle.rt_base.specs.declared.operation.Outcome.TheVariants.{Got, Put, Closed}
use Rattle.rt_base.specs.declared.operation.End.TheVariants.{Committed}
use Rattle.step_journal.specs.declared.entry.Entry.{Entry}
use Rattle.step_journal.specs.declared.entry.Entry.TheVariants.{Planned, Step, Idle}
use Rattle.txn_set.specs.Set.{Set, IsCompiled, declared, released_from}
use Rattle.step_journal.specs.History.{IsLegal, IsLegalEntry, state_of}
use Rattle.law_histories.specs.Ids.{tx, item, job}

unfoldable pub derived_stamp : Set
derived_stamp = record {
  items = record { kind = Sensor 20; initial = pos 0 } ∷ record { kind = Derived 50; initial = pos 0 } ∷ record { kind = State; initial = pos 0 } ∷ [];
  txns =
      declared 2 10 2 [] (item 0 ∷ [])
      ∷ released_from 5 (declared 1 20 5 (item 0 ∷ item 2 ∷ []) (item 1 ∷ item 2 ∷ []))
      ∷ [];
  together = [];
}

unfoldable pub derived_stamp_entries : List Entry
derived_stamp_entries =
    (Planned (tx 0) 0)
    ∷ (Planned (tx 1) 5)
    ∷ (Step (job 0 0) (Write (item 0) (pos 5)) Put None 0)
    ∷ (Step (job 0 0) Commit Closed (Some Committed) 1)
    ∷ (Idle 2 5)
    ∷ (Step (job 1 0) (Read (item 0)) (Got (pos 5) (Some 0)) None 5)
    ∷ (Step (job 1 0) (Write (item 1) (pos 105)) Put None 6)
    ∷ (Step (job 1 0) (Write (item 2) (pos 7)) Put None 7)
    ∷ (Step (job 1 0) (Read (item 2)) (Got (pos 7) None) None 8)
    ∷ (Step (job 1 0) Commit Closed (Some Committed) 9)
    ∷ []

unfoldable pub own_read_stamped_before : List Entry
own_read_stamped_before = take 8 derived_stamp_entries

-- the own write has a stamp
abbrev pub own_read_stamped : Entry
own_read_stamped = Step (job 1 0) (Read (item 2)) (Got (pos 7) (Some 0)) None 8

-- the set compiles, the entries are a legal history of it with these last items, and what a wrong database would do instead
-- is not legal
pub record DerivedStampHolds : Type 0 where
  pub compiled : IsCompiled derived_stamp
  pub legal : IsLegal derived_stamp derived_stamp_entries
  pub items : (state_of derived_stamp derived_stamp_entries).items ≡ record { value = pos 5; stamp = 0 } ∷ record { value = pos 105; stamp = 0 } ∷ record { value = pos 7; stamp = 5 } ∷ []
  pub own_read_stamped : ¬ IsLegalEntry derived_stamp (state_of derived_stamp own_read_stamped_before) own_read_stamped
