-- A job that used its steps without a commit ends Overrun.
use Rattle.std.specs.Prelude.{◌≡◌, List, [], ◌∷◌, take, None, Some}
use Rattle.rt_base.specs.declared.operation.Op.TheVariants.{Compute}
use Rattle.rt_base.specs.declared.operation.Outcome.TheVariants.{Computed}
use Rattle.rt_base.specs.declared.operation.End.TheVariants.{Overrun}
use Rattle.step_journal.specs.declared.entry.Entry.{Entry}
use Rattle.step_journal.specs.declared.entry.Entry.TheVariants.{Planned, Step}
use Rattle.txn_set.specs.Set.{Set, IsCompiled, declared}
use Rattle.step_journal.specs.History.{IsLegal, IsLegalEntry, state_of}
use Rattle.law_histories.specs.Ids.{tx, job}

unfoldable pub overrun : Set
overrun = record {
  items = [];
  txns =
      declared 1 10 3 [] []
      ∷ [];
  together = [];
}

unfoldable pub overrun_entries : List Entry
overrun_entries =
    (Planned (tx 0) 0)
    ∷ (Step (job 0 0) Compute Computed None 0)
    ∷ (Step (job 0 0) Compute Computed None 1)
    ∷ (Step (job 0 0) Compute Computed (Some Overrun) 2)
    ∷ []

unfoldable pub never_overrun_before : List Entry
never_overrun_before = take 3 overrun_entries

-- the steps are not counted
abbrev pub never_overrun : Entry
never_overrun = Step (job 0 0) Compute Computed None 2

-- the set compiles, the entries are a legal history of it with these last items, and what a wrong database would do instead
-- is not legal
pub record OverrunHolds : Type 0 where
  pub compiled : IsCompiled overrun
  pub legal : IsLegal overrun overrun_entries
  pub items : (state_of overrun overrun_entries).items ≡ []
  pub never_overrun : ¬ IsLegalEntry overrun (state_of overrun never_overrun_before) never_overrun
