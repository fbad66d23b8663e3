-- A commit that ends exactly at the deadline counts, and stands before the next release of its instant.
use Rattle.std.specs.Prelude.{◌≡◌, List, [], ◌∷◌, take, None, Some}
use Rattle.rt_base.specs.declared.operation.Op.TheVariants.{Compute, Commit}
use Rattle.rt_base.specs.declared.operation.Outcome.TheVariants.{Computed, Closed}
use Rattle.rt_base.specs.declared.operation.End.TheVariants.{Committed, Late}
use Rattle.step_journal.specs.declared.entry.Entry.{Entry}
use Rattle.step_journal.specs.declared.entry.Entry.TheVariants.{Planned, Step}
use Rattle.txn_set.specs.Set.{Set, IsCompiled, declared}
use Rattle.step_journal.specs.History.{IsLegal, IsLegalEntry, state_of}
use Rattle.law_histories.specs.Ids.{tx, job}

unfoldable pub back_to_back : Set
back_to_back = record {
  items = [];
  txns =
      declared 1 4 4 [] []
      ∷ [];
  together = [];
}

unfoldable pub back_to_back_entries : List Entry
back_to_back_entries =
    (Planned (tx 0) 0)
    ∷ (Planned (tx 0) 4)
    ∷ (Step (job 0 0) Compute Computed None 0)
    ∷ (Step (job 0 0) Compute Computed None 1)
    ∷ (Step (job 0 0) Compute Computed None 2)
    ∷ (Step (job 0 0) Commit Closed (Some Committed) 3)
    ∷ (Step (job 0 1) Compute Computed None 4)
    ∷ (Step (job 0 1) Compute Computed None 5)
    ∷ (Step (job 0 1) Compute Computed None 6)
    ∷ (Step (job 0 1) Commit Closed (Some Committed) 7)
    ∷ []

unfoldable pub late_before_effect_before : List Entry
late_before_effect_before = take 5 back_to_back_entries

-- a job is cancelled before the effect of the step that ends at its deadline
abbrev pub late_before_effect : Entry
late_before_effect = Step (job 0 0) Commit Closed (Some Late) 3

-- the set compiles, the entries are a legal history of it with these last items, and what a wrong database would do instead
-- is not legal
pub record BackToBackHolds : Type 0 where
  pub compiled : IsCompiled back_to_back
  pub legal : IsLegal back_to_back back_to_back_entries
  pub items : (state_of back_to_back back_to_back_entries).items ≡ []
  pub late_before_effect : ¬ IsLegalEntry back_to_back (state_of back_to_back late_before_effect_before) late_before_effect
