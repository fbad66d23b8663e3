-- What is kept to find the greatest ages: the commits by transaction and serial, and the greatest age of each item.
use Rattle.std.specs.Prelude.{ℕ, ◌+◌, ◌-◌, nat_lt, List, [], ◌∷◌, ◌++◌, take, length, replicate, slice_set, slice_index_or, Option, None, Some, if◌then◌else◌}
use Rattle.rt_base.specs.declared.ids.JobId.{JobId}
use Rattle.item_model.specs.declared.stored.OutsideRead.{OutsideRead}
use Rattle.step_journal.specs.declared.entry.Entry.{Entry}
use Rattle.step_journal.specs.declared.entry.Entry.TheVariants.{Step}
use Rattle.step_journal.specs.Timing.{outside_read}
use Rattle.job_rows.specs.declared.row.JobRow.{JobRow}
use Rattle.report_export.specs.Worsts.{at_least, commit_tick}

-- ---- the commits

-- a list that has this place
abbrev pub with_place : List (Option ℕ) → ℕ → List (Option ℕ)
with_place ticks at = if nat_lt at (length ticks) then ticks else (take (at + 1) ticks ++ replicate ((at + 1) - length ticks) None)

-- with this tick, or none, at a place
abbrev pub with_tick : List (Option ℕ) → ℕ → Option ℕ → List (Option ℕ)
with_tick ticks at tick = slice_set (with_place ticks at) at tick

abbrev pub commit_at : List (List (Option ℕ)) → JobId → Option ℕ
commit_at commits job = slice_index_or (slice_index_or commits job.tx.0 []) job.serial None

abbrev pub with_commit : List (List (Option ℕ)) → JobRow → List (List (Option ℕ))
with_commit commits row =
    slice_set commits row.job.tx.0 (with_tick (slice_index_or commits row.job.tx.0 []) row.job.serial (commit_tick row.end))

-- those of so many transactions
abbrev pub commits_in : ℕ → List JobRow → List (List (Option ℕ))
commits_in n [] = replicate n []
commits_in n (row ∷ rows) = with_commit (commits_in n rows) row

-- ---- the greatest ages

abbrev pub with_age : List (Option ℕ) → ℕ → ℕ → List (Option ℕ)
with_age worsts item age = slice_set worsts item (Some (at_least age (slice_index_or worsts item None)))

-- of an outside read that ended so
abbrev pub with_end_of : List (Option ℕ) → OutsideRead → Option ℕ → List (Option ℕ)
with_end_of worsts r None = worsts
with_end_of worsts r (Some tick) = with_age worsts r.item.0 (tick - r.stamp)

abbrev pub with_read : List (List (Option ℕ)) → List (Option ℕ) → JobId → Option OutsideRead → List (Option ℕ)
with_read commits worsts job None = worsts
with_read commits worsts job (Some r) = with_end_of worsts r (commit_at commits job)

abbrev pub with_entry : List (List (Option ℕ)) → List (Option ℕ) → Entry → List (Option ℕ)
with_entry commits worsts (Step job op outcome over tick) = with_read commits worsts job (outside_read op outcome)
with_entry commits worsts e = worsts

-- those of so many items
abbrev pub worst_ages : ℕ → List (List (Option ℕ)) → List Entry → List (Option ℕ)
worst_ages n commits [] = replicate n None
worst_ages n commits (e ∷ es) = with_entry commits (worst_ages n commits es) e
