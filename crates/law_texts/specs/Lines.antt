-- How many bytes the lines of entries and of jobs have. A name has at most 32, and each number as many as its range allows.
use Rattle.std.specs.Prelude.{◌≡◌, ℕ, ◌^◌, ◌<◌, ◌≤◌, List, [], ◌∷◌, ◌++◌, length, Option, Some}
use Rattle.std.specs.List.{All}
use Rattle.rt_base.specs.Names.{AreNames}
use Rattle.rt_base.specs.declared.name.Names.{Names}
use Rattle.rt_base.specs.declared.ids.JobId.{JobId}
use Rattle.rt_base.specs.declared.operation.Op.{Op}
use Rattle.rt_base.specs.declared.operation.Op.TheVariants.{Commit}
use Rattle.rt_base.specs.declared.operation.Outcome.{Outcome}
use Rattle.rt_base.specs.declared.operation.End.{End}
use Rattle.rt_base.specs.declared.operation.End.TheVariants as end
use Rattle.txn_set.specs.Set.{Set, IsCompiled}
use Rattle.step_journal.specs.declared.entry.Entry.{Entry}
use Rattle.step_journal.specs.declared.entry.Entry.TheVariants.{Step}
use Rattle.step_journal.specs.History.{IsLegal}
use Rattle.law_histories.specs.Counting.{plan_count}
use Rattle.job_rows.specs.Rows.{job_rows}
use Rattle.report_text.specs.Texts.{whole_entry_line, job_line}
use Rattle.run_report.specs.Types.{HasTypes}

-- a line and its line end
abbrev pub IsShort : List ℕ → Type 0
IsShort line = length line < 200

-- a legal history of a compiled set, with names, whose numbers are those of their types
pub record IsNamedHistory (names : Names) (set : Set) (entries : List Entry) : Type 0 where
  pub item_names : AreNames names.items
  pub txn_names : AreNames names.txns
  pub compiled : IsCompiled set
  pub legal : IsLegal set entries
  pub types : HasTypes set entries

-- each entry's line is short
abbrev pub EntryLinesAreShort : Type 0
EntryLinesAreShort =
    (names : Names) (set : Set) (entries : List Entry) (place : ℕ) → IsNamedHistory names set entries
    → All (λ e. IsShort (whole_entry_line names place e)) entries

-- an end that names items
abbrev pub NamesItems : Option End → Type 0
NamesItems (Some (end.Stale item stamp)) = Unit {0}
NamesItems (Some (end.Apart a b)) = Unit {0}
NamesItems other = ⊥

-- A step ends its job so only where it commits, and then its operation names none.
abbrev pub OnlyCommitsNameItems : Type 0
OnlyCommitsNameItems =
    (set : Set) (entries : List Entry) (job : JobId) (op : Op) (outcome : Outcome) (over : Option End) (tick : ℕ)
    → IsCompiled set → IsLegal set (entries ++ Step job op outcome over tick ∷ []) → NamesItems over → op ≡ Commit

-- Each job's line is nearly so, whatever the serials.
abbrev pub JobLinesAreShort : Type 0
JobLinesAreShort =
    (names : Names) (set : Set) (entries : List Entry) (place : ℕ) → IsNamedHistory names set entries
    → All (λ row. length (job_line names place row) < 210) (job_rows set entries)

-- It is short where the serials are below 2^16.
abbrev pub FewJobsHaveShortLines : Type 0
FewJobsHaveShortLines =
    (names : Names) (set : Set) (entries : List Entry) (place : ℕ) → IsNamedHistory names set entries
    → ((tx : ℕ) → plan_count entries tx ≤ 2 ^ 16)
    → All (λ row. IsShort (job_line names place row)) (job_rows set entries)
