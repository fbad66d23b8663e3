-- The report of a set, its mode and its entries.
use Rattle.std.specs.Prelude.{◌≡◌, ℕ, ◌≤◌, Bool, List, [], ◌++◌, codes, if◌then◌else◌}
use Rattle.rt_base.specs.declared.name.Names.{Names}
use Rattle.item_model.specs.declared.stored.Stored.{Stored}
use Rattle.txn_set.specs.Set.{Set}
use Rattle.step_journal.specs.declared.entry.Entry.{Entry}
use Rattle.step_journal.specs.History.{IsLegal, state_of}
use Rattle.job_rows.specs.declared.row.JobRow.{JobRow}
use Rattle.job_rows.specs.Rows.{job_rows}
use Rattle.job_rows.specs.Upkeep.{RowsSeen, Follows, GoesOn, planned_jobs}
use Rattle.journal_text.specs.Lines.{◌⊕◌}
use Rattle.report_text.specs.Texts.{declarations, ceilings_of, entries_text, jobs_text, finals_text, NamesSet}
use Rattle.run_report.specs.Bounds.{limits_of}

-- bounds and ages, in mode admitted alone
abbrev pub limits_text : Bool → Names → Set → List ℕ
limits_text admitted names set = if admitted then limits_of names set else []

-- what stands before the entries
abbrev pub opening_text : Names → Set → Bool → List ℕ
opening_text names set admitted =
    declarations names set admitted ⊕ ceilings_of names set ⊕ limits_text admitted names set

-- what stands after them
abbrev pub closing_text : Names → List JobRow → List Stored → List ℕ
closing_text names rows items = jobs_text names rows ⊕ finals_text names items ⊕ codes "end\n"

-- the whole: the rows are those of the history's jobs, and the items those of its state
abbrev pub report_of : Names → Set → Bool → List Entry → List ℕ
report_of names set admitted entries =
    opening_text names set admitted ⊕ entries_text names entries
    ⊕ closing_text names (job_rows set entries) (state_of set entries).items

-- the next entry of a history that the rows follow, of a set with these names
pub record Writes (names : Names) (rows : RowsSeen) (entry : Entry) : Type 0 where
  pub goes : GoesOn rows entry
  pub one_each : NamesSet names goes.set

-- the entries go on after a history that the rows follow, of no more jobs than there are places
pub record Continues (names : Names) (rows : RowsSeen) (entries : List Entry) : Type 0 where
  pub set : Set
  pub history : List Entry
  pub one_each : NamesSet names set
  pub follows : Follows set rows history
  pub legal : IsLegal set (history ++ entries)
  pub few : planned_jobs (history ++ entries) ≤ rows.room

-- a history that the rows follow, of a set with these names, and its last items
pub record Closes (names : Names) (rows : RowsSeen) (items : List Stored) : Type 0 where
  pub set : Set
  pub history : List Entry
  pub follows : Follows set rows history
  pub one_each : NamesSet names set
  pub last : items ≡ (state_of set history).items
