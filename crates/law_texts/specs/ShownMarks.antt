-- What marks show, and what entries and rows tell of the same.
use Rattle.std.specs.Prelude.{◌≡◌, ℕ, ◌+◌, List, map, Option, None, Some}
use Rattle.std.specs.List.{filter, filter_map}
use Rattle.std.specs.Option.{option_map}
use Rattle.rt_base.specs.declared.ids.JobId.{JobId}
use Rattle.rt_base.specs.declared.operation.Op.{Op}
use Rattle.rt_base.specs.declared.operation.End.{End}
use Rattle.rt_base.specs.declared.release.Release.{Release}
use Rattle.txn_set.specs.Set.{Set, txn_of}
use Rattle.step_journal.specs.declared.entry.Entry.{Entry}
use Rattle.step_journal.specs.declared.entry.Entry.TheVariants.{Step, Blocked}
use Rattle.step_journal.specs.declared.entry.EndedJob.{EndedJob}
use Rattle.step_journal.specs.History.{state_of}
use Rattle.job_rows.specs.declared.row.JobRow.{JobRow}
use Rattle.job_rows.specs.Rows.{job_rows}
use Rattle.schedule_marks.specs.declared.part.Part.{Part}
use Rattle.schedule_marks.specs.declared.mark.Mark.{Mark}
use Rattle.schedule_marks.specs.declared.mark.Mark.TheVariants as mark
use Rattle.schedule_marks.specs.Parts.{has_tick, has_instant}
use Rattle.schedule_marks.specs.Marks.{marks_of}

-- a granted operation, and the tick that it took
pub record Granted : Type 0 where
  pub job : JobId
  pub op : Op
  pub tick : ℕ

-- a refused operation, the job that it waits on, and the instant
pub record Refused : Type 0 where
  pub job : JobId
  pub op : Op
  pub by : JobId
  pub tick : ℕ

-- how a job ended, and the instant
pub record Ending : Type 0 where
  pub job : JobId
  pub end : End
  pub tick : ℕ

-- ---- what a mark shows

abbrev pub granted_of : Mark → Option Granted
granted_of (mark.Step job op tick) = Some (record { job = job; op = op; tick = tick })
granted_of other = None

abbrev pub refused_of : Mark → Option Refused
refused_of (mark.Refusal job op by tick) = Some (record { job = job; op = op; by = by; tick = tick })
refused_of other = None

abbrev pub release_of : Mark → Option Release
release_of (mark.Release job tick) = Some (record { job = job; tick = tick })
release_of other = None

abbrev pub deadline_of : Mark → Option Release
deadline_of (mark.Deadline job tick) = Some (record { job = job; tick = tick })
deadline_of other = None

abbrev pub ending_of : Mark → Option Ending
ending_of (mark.Ended job end tick) = Some (record { job = job; end = end; tick = tick })
ending_of other = None

-- ---- what an entry or a row tells

abbrev pub granted_by : Entry → Option Granted
granted_by (Step job op outcome over tick) = Some (record { job = job; op = op; tick = tick })
granted_by other = None

abbrev pub refused_by : Entry → Option Refused
refused_by (Blocked job op by ceiling tick) = Some (record { job = job; op = op; by = by; tick = tick })
refused_by other = None

abbrev pub released_by : JobRow → Release
released_by row = record { job = row.job; tick = row.release }

abbrev pub due_by : Set → JobRow → Release
due_by set row = record { job = row.job; tick = row.release + (txn_of set row.job.tx.0).deadline }

abbrev pub ended_by : JobRow → Option Ending
ended_by row = option_map (λ e. record { job = row.job; end = e.0; tick = e.1 }) row.end

abbrev pub ended_as : EndedJob → Ending
ended_as e = record { job = e.job; end = e.end; tick = e.tick }

-- The marks show the steps and the refusals of the entries whose tick is one of the part, and of the rows the releases, the
-- deadlines and the ends whose instant is one of it: each once, in their order, and no others.
pub record ShowsEach (set : Set) (part : Part) (rows : List JobRow) (entries : List Entry) (marks : List Mark) : Type 0 where
  pub steps : filter_map granted_of marks ≡ filter (λ s. has_tick part s.tick) (filter_map granted_by entries)
  pub refusals : filter_map refused_of marks ≡ filter (λ r. has_tick part r.tick) (filter_map refused_by entries)
  pub releases : filter_map release_of marks ≡ filter (λ r. has_instant part r.tick) (map released_by rows)
  pub deadlines : filter_map deadline_of marks ≡ filter (λ d. has_instant part d.tick) (map (due_by set) rows)
  pub ends : filter_map ending_of marks ≡ filter (λ e. has_instant part e.tick) (filter_map ended_by rows)

abbrev pub MarksShowEach : Type 0
MarksShowEach =
    (set : Set) (part : Part) (rows : List JobRow) (entries : List Entry)
    → ShowsEach set part rows entries (marks_of set part rows entries)

-- the ends that the rows of a history tell are those of its state
abbrev pub RowsTellEnds : Type 0
RowsTellEnds =
    (set : Set) (entries : List Entry)
    → filter_map ended_by (job_rows set entries) ≡ map ended_as (state_of set entries).ended
