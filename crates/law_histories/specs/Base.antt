-- A sampler, a controller and a logger over a sensor and a state item: all ways to be granted, refused and resumed.
use Rattle.std.specs.Prelude.{◌≡◌, List, [], ◌∷◌, take, None, Some, pos}
use Rattle.item_model.specs.declared.decl.ItemKind.TheVariants.{Sensor, State}
use Rattle.rt_base.specs.declared.operation.Op.TheVariants.{Read, Write, Compute, Commit}
use Rattle.rt_base.specs.declared.operation.Outcome.TheVariants.{Got, Put, Computed, Closed}
use Rattle.rt_base.specs.declared.operation.End.TheVariants.{Committed}
use Rattle.step_journal.specs.declared.entry.Entry.{Entry}
use Rattle.step_journal.specs.declared.entry.Entry.TheVariants.{Planned, Step, Blocked, Idle}
use Rattle.txn_set.specs.Set.{Set, IsCompiled, declared}
use Rattle.step_journal.specs.History.{IsLegal, IsLegalEntry, state_of}
use Rattle.law_histories.specs.Ids.{tx, item, job}

unfoldable pub base : Set
base = record {
  items = record { kind = Sensor 20; initial = pos 0 } ∷ record { kind = State; initial = pos 0 } ∷ [];
  txns =
      declared 3 10 2 [] (item 0 ∷ [])
      ∷ declared 2 20 4 (item 0 ∷ []) (item 1 ∷ [])
      ∷ declared 1 40 6 (item 0 ∷ item 1 ∷ []) []
      ∷ [];
  together = [];
}

unfoldable pub base_entries : List Entry
base_entries =
    (Planned (tx 0) 0)
    ∷ (Planned (tx 0) 10)
    ∷ (Planned (tx 0) 20)
    ∷ (Planned (tx 0) 30)
    ∷ (Planned (tx 1) 0)
    ∷ (Planned (tx 1) 20)
    ∷ (Planned (tx 2) 0)
    ∷ (Step (job 0 0) (Write (item 0) (pos 5)) Put None 0)
    ∷ (Step (job 0 0) Commit Closed (Some Committed) 1)
    ∷ (Step (job 1 0) (Read (item 0)) (Got (pos 5) (Some 0)) None 2)
    ∷ (Step (job 1 0) Compute Computed None 3)
    ∷ (Step (job 1 0) (Write (item 1) (pos 105)) Put None 4)
    ∷ (Step (job 1 0) Commit Closed (Some Committed) 5)
    ∷ (Step (job 2 0) (Read (item 0)) (Got (pos 5) (Some 0)) None 6)
    ∷ (Step (job 2 0) (Read (item 1)) (Got (pos 105) (Some 0)) None 7)
    ∷ (Step (job 2 0) Compute Computed None 8)
    ∷ (Step (job 2 0) Compute Computed None 9)
    ∷ (Blocked (job 0 1) (Write (item 0) (pos 7)) (job 2 0) 3 10)
    ∷ (Step (job 2 0) Compute Computed None 10)
    ∷ (Step (job 2 0) Commit Closed (Some Committed) 11)
    ∷ (Step (job 0 1) (Write (item 0) (pos 7)) Put None 12)
    ∷ (Step (job 0 1) Commit Closed (Some Committed) 13)
    ∷ (Idle 14 20)
    ∷ (Step (job 0 2) (Write (item 0) (pos 9)) Put None 20)
    ∷ (Step (job 0 2) Commit Closed (Some Committed) 21)
    ∷ (Step (job 1 1) (Read (item 0)) (Got (pos 9) (Some 20)) None 22)
    ∷ (Step (job 1 1) Compute Computed None 23)
    ∷ (Step (job 1 1) (Write (item 1) (pos 109)) Put None 24)
    ∷ (Step (job 1 1) Commit Closed (Some Committed) 25)
    ∷ (Idle 26 30)
    ∷ (Step (job 0 3) (Write (item 0) (pos 11)) Put None 30)
    ∷ (Step (job 0 3) Commit Closed (Some Committed) 31)
    ∷ []

unfoldable pub equal_ceiling_granted_before : List Entry
equal_ceiling_granted_before = take 17 base_entries

-- a writer passes a reader's lock of an equal ceiling
abbrev pub equal_ceiling_granted : Entry
equal_ceiling_granted = Step (job 0 1) (Write (item 0) (pos 7)) Put None 10

unfoldable pub blocker_passed_before : List Entry
blocker_passed_before = take 18 base_entries

-- the refused job runs on
abbrev pub blocker_passed : Entry
blocker_passed = Step (job 0 1) (Write (item 0) (pos 7)) Put None 10

-- the set compiles, the entries are a legal history of it with these last items, and what a wrong database would do instead
-- is not legal
pub record BaseHolds : Type 0 where
  pub compiled : IsCompiled base
  pub legal : IsLegal base base_entries
  pub items : (state_of base base_entries).items ≡ record { value = pos 11; stamp = 30 } ∷ record { value = pos 109; stamp = 20 } ∷ []
  pub equal_ceiling_granted : ¬ IsLegalEntry base (state_of base equal_ceiling_granted_before) equal_ceiling_granted
  pub blocker_passed : ¬ IsLegalEntry base (state_of base blocker_passed_before) blocker_passed
