-- A job that is pending at its deadline ends Late, and leaves nothing.
use Rattle.std.specs.Prelude.{◌≡◌, List, [], ◌∷◌, take, None, Some, pos}
use Rattle.item_model.specs.declared.decl.ItemKind.TheVariants.{State}
use Rattle.rt_base.specs.declared.operation.Op.TheVariants.{Write, Compute}
use Rattle.rt_base.specs.declared.operation.Outcome.TheVariants.{Put, Computed}
use Rattle.rt_base.specs.declared.operation.End.TheVariants.{Late}
use Rattle.step_journal.specs.declared.entry.Entry.{Entry}
use Rattle.step_journal.specs.declared.entry.Entry.TheVariants.{Planned, Step}
use Rattle.txn_set.specs.Set.{Set, IsCompiled, declared}
use Rattle.step_journal.specs.History.{IsLegal, IsLegalEntry, state_of}
use Rattle.law_histories.specs.Ids.{tx, item, job}

unfoldable pub late : Set
late = record {
  items = record { kind = State; initial = pos 0 } ∷ [];
  txns =
      declared 1 4 5 [] (item 0 ∷ [])
      ∷ [];
  together = [];
}

unfoldable pub late_entries : List Entry
late_entries =
    (Planned (tx 0) 0)
    ∷ (Planned (tx 0) 4)
    ∷ (Step (job 0 0) (Write (item 0) (pos 1)) Put None 0)
    ∷ (Step (job 0 0) Compute Computed None 1)
    ∷ (Step (job 0 0) Compute Computed None 2)
    ∷ (Step (job 0 0) Compute Computed (Some Late) 3)
    ∷ (Step (job 0 1) (Write (item 0) (pos 1)) Put None 4)
    ∷ (Step (job 0 1) Compute Computed None 5)
    ∷ (Step (job 0 1) Compute Computed None 6)
    ∷ (Step (job 0 1) Compute Computed (Some Late) 7)
    ∷ []

unfoldable pub never_late_before : List Entry
never_late_before = take 5 late_entries

-- no job is cancelled
abbrev pub never_late : Entry
never_late = Step (job 0 0) Compute Computed None 3

unfoldable pub release_before_late_before : List Entry
release_before_late_before = take 6 late_entries

-- the next release comes before the cancellation, and the job goes on
abbrev pub release_before_late : Entry
release_before_late = Step (job 0 0) Compute Computed None 4

-- the set compiles, the entries are a legal history of it with these last items, and what a wrong database would do instead
-- is not legal
pub record LateHolds : Type 0 where
  pub compiled : IsCompiled late
  pub legal : IsLegal late late_entries
  pub items : (state_of late late_entries).items ≡ record { value = pos 0; stamp = 0 } ∷ []
  pub never_late : ¬ IsLegalEntry late (state_of late never_late_before) never_late
  pub release_before_late : ¬ IsLegalEntry late (state_of late release_before_late_before) release_before_late
