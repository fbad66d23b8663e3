-- A blocker inherits the priority of the job that waits on it, so a job between the two waits as well.
use Rattle.std.specs.Prelude.{◌≡◌, List, [], ◌∷◌, take, None, Some, pos}
use Rattle.item_model.specs.declared.decl.ItemKind.TheVariants.{State}
use Rattle.rt_base.specs.declared.operation.Op.TheVariants.{Read, Write, Compute, Commit}
use Rattle.rt_base.specs.declared.operation.Outcome.TheVariants.{Got, Put, Computed, Closed}
use Rattle.rt_base.specs.declared.operation.End.TheVariants.{Committed}
use Rattle.step_journal.specs.declared.entry.Entry.{Entry}
use Rattle.step_journal.specs.declared.entry.Entry.TheVariants.{Planned, Step, Blocked}
use Rattle.txn_set.specs.Set.{Set, IsCompiled, declared}
use Rattle.step_journal.specs.History.{IsLegal, IsLegalEntry, state_of}
use Rattle.law_histories.specs.Ids.{tx, item, job}

unfoldable pub bystander : Set
bystander = record {
  items = record { kind = State; initial = pos 0 } ∷ [];
  txns =
      declared 3 20 2 (item 0 ∷ []) []
      ∷ declared 2 20 2 [] []
      ∷ declared 1 40 4 [] (item 0 ∷ [])
      ∷ [];
  together = [];
}

unfoldable pub bystander_entries : List Entry
bystander_entries =
    (Planned (tx 0) 1)
    ∷ (Planned (tx 1) 2)
    ∷ (Planned (tx 2) 0)
    ∷ (Step (job 2 0) (Write (item 0) (pos 9)) Put None 0)
    ∷ (Blocked (job 0 0) (Read (item 0)) (job 2 0) 3 1)
    ∷ (Step (job 2 0) Compute Computed None 1)
    ∷ (Step (job 2 0) Compute Computed None 2)
    ∷ (Step (job 2 0) Commit Closed (Some Committed) 3)
    ∷ (Step (job 0 0) (Read (item 0)) (Got (pos 9) (Some 0)) None 4)
    ∷ (Step (job 0 0) Commit Closed (Some Committed) 5)
    ∷ (Step (job 1 0) Compute Computed None 6)
    ∷ (Step (job 1 0) Commit Closed (Some Committed) 7)
    ∷ []

unfoldable pub no_inheritance_before : List Entry
no_inheritance_before = take 6 bystander_entries

-- the job between runs before the blocker
abbrev pub no_inheritance : Entry
no_inheritance = Step (job 1 0) Compute Computed None 2

-- the set compiles, the entries are a legal history of it with these last items, and what a wrong database would do instead
-- is not legal
pub record BystanderHolds : Type 0 where
  pub compiled : IsCompiled bystander
  pub legal : IsLegal bystander bystander_entries
  pub items : (state_of bystander bystander_entries).items ≡ record { value = pos 9; stamp = 0 } ∷ []
  pub no_inheritance : ¬ IsLegalEntry bystander (state_of bystander no_inheritance_before) no_inheritance
