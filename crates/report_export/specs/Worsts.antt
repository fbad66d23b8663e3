-- What is said of the jobs of a transaction, and of the ages of what committed jobs had read.
use Rattle.std.specs.Prelude.{ℕ, ◌-◌, ◌==◌, max, is_none, Bool, List, [], ◌∷◌, map, Option, None, Some, if◌then◌else◌}
use Rattle.std.specs.List.{filter, filter_map}
use Rattle.std.specs.Option.{option_map}
use Rattle.rt_base.specs.declared.ids.JobId.{JobId}
use Rattle.rt_base.specs.declared.operation.End.{End}
use Rattle.rt_base.specs.declared.operation.End.TheVariants as end
use Rattle.item_model.specs.declared.stored.OutsideRead.{OutsideRead}
use Rattle.step_journal.specs.declared.entry.Entry.{Entry}
use Rattle.step_journal.specs.declared.entry.Entry.TheVariants.{Step}
use Rattle.step_journal.specs.State.{same_job}
use Rattle.step_journal.specs.Timing.{outside_read}
use Rattle.job_rows.specs.declared.row.JobRow.{JobRow}
use Rattle.run_report.specs.Counts.{row_is}

-- ---- the greatest of some numbers, if there is one

abbrev pub at_least : ℕ → Option ℕ → ℕ
at_least x None = x
at_least x (Some y) = max x y

abbrev pub worst : List ℕ → Option ℕ
worst [] = None
worst (x ∷ xs) = Some (at_least x (worst xs))

-- ---- the jobs of a transaction

abbrev pub jobs_of : ℕ → List JobRow → List JobRow
jobs_of tx rows = filter (λ row. row.job.tx.0 == tx) rows

-- the place of an end among the counts of a summary
abbrev pub place_of : End → ℕ
place_of end.Committed = 0
place_of (end.Stale item stamp) = 1
place_of (end.Apart a b) = 2
place_of end.Overrun = 3
place_of end.Late = 4
place_of end.Quit = 5

-- the job had an end of this place
abbrev pub ended_at : ℕ → JobRow → Bool
ended_at place row = row_is (λ e. place_of e == place) row

-- the job is pending
abbrev pub is_pending : JobRow → Bool
is_pending row = is_none row.end

-- the response of an ended job: its end less its release
abbrev pub response_in : JobRow → Option ℕ
response_in row = option_map (λ e. e.1 - row.release) row.end

abbrev pub responses : List JobRow → List ℕ
responses rows = filter_map response_in rows

abbrev pub delays : List JobRow → List ℕ
delays rows = map (λ row. row.delay) rows

-- ---- the ages of an item

-- the tick of an end, if it is a commit
abbrev pub commit_tick : Option (End × ℕ) → Option ℕ
commit_tick (Some (end.Committed, tick)) = Some tick
commit_tick close = None

-- the tick at which a job committed, by its row
abbrev pub commit_of : List JobRow → JobId → Option ℕ
commit_of [] job = None
commit_of (row ∷ rows) job = if same_job row.job job then commit_tick row.end else commit_of rows job

-- the age of an outside read at the end of its job, if it is of this item and the job committed: the end less the stamp
abbrev pub read_age : List JobRow → ℕ → JobId → Option OutsideRead → Option ℕ
read_age rows item job None = None
read_age rows item job (Some r) = if r.item.0 == item then option_map (λ tick. tick - r.stamp) (commit_of rows job) else None

abbrev pub age_in : List JobRow → ℕ → Entry → Option ℕ
age_in rows item (Step job op outcome over tick) = read_age rows item job (outside_read op outcome)
age_in rows item e = None

-- the ages of an item at the end of the committed jobs that had read it from outside, one for each such read
abbrev pub ages : List JobRow → ℕ → List Entry → List ℕ
ages rows item entries = filter_map (age_in rows item) entries
