-- A job reads only after its quiet steps.
use Rattle.std.specs.Prelude.{◌≡◌, List, [], ◌∷◌, take, None, Some, pos}
use Rattle.item_model.specs.declared.decl.ItemKind.TheVariants.{Sensor}
use Rattle.rt_base.specs.declared.operation.Op.TheVariants.{Read, Compute}
use Rattle.rt_base.specs.declared.operation.Outcome.TheVariants.{Got, Computed}
use Rattle.step_journal.specs.declared.entry.Entry.{Entry}
use Rattle.step_journal.specs.declared.entry.Entry.TheVariants.{Planned, Step}
use Rattle.txn_set.specs.Set.{Set, IsCompiled, declared}
use Rattle.step_journal.specs.History.{IsLegal, IsLegalEntry, state_of}
use Rattle.law_histories.specs.Ids.{tx, item, job}

unfoldable pub quiet : Set
quiet = record {
  items = record { kind = Sensor 20; initial = pos 0 } ∷ [];
  txns =
      declared 2 10 2 [] (item 0 ∷ [])
      ∷ record (declared 1 40 6 (item 0 ∷ []) []) { quiet = 3 }
      ∷ [];
  together = [];
}

unfoldable pub quiet_entries : List Entry
quiet_entries =
    (Planned (tx 1) 0)
    ∷ (Step (job 1 0) Compute Computed None 0)
    ∷ (Step (job 1 0) Compute Computed None 1)
    ∷ (Step (job 1 0) Compute Computed None 2)
    ∷ (Step (job 1 0) (Read (item 0)) (Got (pos 0) (Some 0)) None 3)
    ∷ []

unfoldable pub too_early_before : List Entry
too_early_before = take 3 quiet_entries

-- a read comes among the quiet steps
abbrev pub too_early : Entry
too_early = Step (job 1 0) (Read (item 0)) (Got (pos 0) (Some 0)) None 2

-- the set compiles, the entries are a legal history of it with these last items, and what a wrong database would do instead
-- is not legal
pub record QuietHolds : Type 0 where
  pub compiled : IsCompiled quiet
  pub legal : IsLegal quiet quiet_entries
  pub items : (state_of quiet quiet_entries).items ≡ record { value = pos 0; stamp = 0 } ∷ []
  pub too_early : ¬ IsLegalEntry quiet (state_of quiet too_early_before) too_early
