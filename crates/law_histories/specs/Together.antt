-- A commit after two reads whose stamps lie further apart than their relative set allows ends Apart.
use Rattle.std.specs.Prelude.{◌≡◌, List, [], ◌∷◌, take, None, Some, pos}
use Rattle.item_model.specs.declared.decl.ItemKind.TheVariants.{Sensor}
use Rattle.rt_base.specs.declared.operation.Op.TheVariants.{Read, Write, Commit}
use Rattle.rt_base.specs.declared.operation.Outcome.TheVariants.{Got, Put, Closed}
use Rattle.rt_base.specs.declared.operation.End.TheVariants.{Committed, Apart}
use Rattle.step_journal.specs.declared.entry.Entry.{Entry}
use Rattle.step_journal.specs.declared.entry.Entry.TheVariants.{Planned, Step, Idle}
use Rattle.txn_set.specs.Set.{Set, IsCompiled, declared}
use Rattle.step_journal.specs.History.{IsLegal, IsLegalEntry, state_of}
use Rattle.law_histories.specs.Ids.{tx, item, job}

unfoldable pub together : Set
together = record {
  items = record { kind = Sensor 100; initial = pos 0 } ∷ record { kind = Sensor 100; initial = pos 0 } ∷ [];
  txns =
      declared 3 10 2 [] (item 0 ∷ [])
      ∷ declared 2 40 2 [] (item 1 ∷ [])
      ∷ declared 1 40 3 (item 0 ∷ item 1 ∷ []) []
      ∷ [];
  together = record { items = item 0 ∷ item 1 ∷ []; within = 20 } ∷ [];
}

unfoldable pub together_entries : List Entry
together_entries =
    (Planned (tx 0) 0)
    ∷ (Planned (tx 0) 10)
    ∷ (Planned (tx 0) 20)
    ∷ (Planned (tx 0) 30)
    ∷ (Planned (tx 1) 0)
    ∷ (Planned (tx 2) 30)
    ∷ (Step (job 0 0) (Write (item 0) (pos 1)) Put None 0)
    ∷ (Step (job 0 0) Commit Closed (Some Committed) 1)
    ∷ (Step (job 1 0) (Write (item 1) (pos 1)) Put None 2)
    ∷ (Step (job 1 0) Commit Closed (Some Committed) 3)
    ∷ (Idle 4 10)
    ∷ (Step (job 0 1) (Write (item 0) (pos 1)) Put None 10)
    ∷ (Step (job 0 1) Commit Closed (Some Committed) 11)
    ∷ (Idle 12 20)
    ∷ (Step (job 0 2) (Write (item 0) (pos 1)) Put None 20)
    ∷ (Step (job 0 2) Commit Closed (Some Committed) 21)
    ∷ (Idle 22 30)
    ∷ (Step (job 0 3) (Write (item 0) (pos 1)) Put None 30)
    ∷ (Step (job 0 3) Commit Closed (Some Committed) 31)
    ∷ (Step (job 2 0) (Read (item 0)) (Got (pos 1) (Some 30)) None 32)
    ∷ (Step (job 2 0) (Read (item 1)) (Got (pos 1) (Some 0)) None 33)
    ∷ (Step (job 2 0) Commit Closed (Some (Apart (item 1) (item 0))) 34)
    ∷ []

unfoldable pub apart_committed_before : List Entry
apart_committed_before = take 21 together_entries

-- values too far apart are committed
abbrev pub apart_committed : Entry
apart_committed = Step (job 2 0) Commit Closed (Some Committed) 34

-- the set compiles, the entries are a legal history of it with these last items, and what a wrong database would do instead
-- is not legal
pub record TogetherHolds : Type 0 where
  pub compiled : IsCompiled together
  pub legal : IsLegal together together_entries
  pub items : (state_of together together_entries).items ≡ record { value = pos 1; stamp = 30 } ∷ record { value = pos 1; stamp = 0 } ∷ []
  pub apart_committed : ¬ IsLegalEntry together (state_of together apart_committed_before) apart_committed
