-- A commit after a read that is past its validity ends Stale, and installs nothing.
use Rattle.std.specs.Prelude.{◌≡◌, List, [], ◌∷◌, take, None, Some, pos}
use Rattle.item_model.specs.declared.decl.ItemKind.TheVariants.{Sensor, State}
use Rattle.rt_base.specs.declared.operation.Op.TheVariants.{Read, Write, Compute, Commit}
use Rattle.rt_base.specs.declared.operation.Outcome.TheVariants.{Got, Put, Computed, Closed}
use Rattle.rt_base.specs.declared.operation.End.TheVariants.{Committed, Stale}
use Rattle.step_journal.specs.declared.entry.Entry.{Entry}
use Rattle.step_journal.specs.declared.entry.Entry.TheVariants.{Planned, Step, Idle}
use Rattle.txn_set.specs.Set.{Set, IsCompiled, declared}
use Rattle.step_journal.specs.History.{IsLegal, IsLegalEntry, state_of}
use Rattle.law_histories.specs.Ids.{tx, item, job}

unfoldable pub stale : Set
stale = record {
  items = record { kind = Sensor 20; initial = pos 0 } ∷ record { kind = State; initial = pos 0 } ∷ [];
  txns =
      declared 3 10 2 [] (item 0 ∷ [])
      ∷ declared 2 20 4 (item 0 ∷ []) (item 1 ∷ [])
      ∷ declared 1 40 6 (item 0 ∷ item 1 ∷ []) []
      ∷ [];
  together = [];
}

unfoldable pub stale_entries : List Entry
stale_entries =
    (Planned (tx 0) 0)
    ∷ (Planned (tx 0) 30)
    ∷ (Planned (tx 1) 20)
    ∷ (Step (job 0 0) (Write (item 0) (pos 5)) Put None 0)
    ∷ (Step (job 0 0) Commit Closed (Some Committed) 1)
    ∷ (Idle 2 20)
    ∷ (Step (job 1 0) (Read (item 0)) (Got (pos 5) (Some 0)) None 20)
    ∷ (Step (job 1 0) Compute Computed None 21)
    ∷ (Step (job 1 0) (Write (item 1) (pos 105)) Put None 22)
    ∷ (Step (job 1 0) Commit Closed (Some (Stale (item 0) 0)) 23)
    ∷ (Idle 24 30)
    ∷ (Step (job 0 1) (Write (item 0) (pos 7)) Put None 30)
    ∷ (Step (job 0 1) Commit Closed (Some Committed) 31)
    ∷ []

unfoldable pub expired_committed_before : List Entry
expired_committed_before = take 9 stale_entries

-- an expired value is committed
abbrev pub expired_committed : Entry
expired_committed = Step (job 1 0) Commit Closed (Some Committed) 23

-- the set compiles, the entries are a legal history of it with these last items, and what a wrong database would do instead
-- is not legal
pub record StaleHolds : Type 0 where
  pub compiled : IsCompiled stale
  pub legal : IsLegal stale stale_entries
  pub items : (state_of stale stale_entries).items ≡ record { value = pos 7; stamp = 30 } ∷ record { value = pos 0; stamp = 0 } ∷ []
  pub expired_committed : ¬ IsLegalEntry stale (state_of stale expired_committed_before) expired_committed
