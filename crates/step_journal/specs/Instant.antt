-- What happens at an instant, after the effect of a step that ends there: the Late cancellations, then the releases.
use Rattle.std.specs.Prelude.{ℕ, ◌+◌, ◌==◌, Bool, not, if◌then◌else◌, List, [], ◌∷◌, ◌++◌, map, Option, None, Some, slice_set}
use Rattle.std.specs.List.{filter, fold}
use Rattle.std.specs.Option.{option_map}
use Rattle.rt_base.specs.declared.ids.JobId.{JobId}
use Rattle.rt_base.specs.declared.operation.End.{End}
use Rattle.rt_base.specs.declared.operation.End.TheVariants.{Late}
use Rattle.txn_set.specs.Set.{Set, txn_of}
use Rattle.step_journal.specs.State.{State, Row, same_job, new_row, pending}
use Rattle.step_journal.specs.LockRule.{in_falling_priority}

-- the row waits no more, if it waited on this job
abbrev pub freed_from : JobId → Option JobId → Option JobId
freed_from job None = None
freed_from job (Some on) = if same_job on job then None else Some on

abbrev pub freed : JobId → Row → Row
freed job row = record row { waits_on = freed_from job row.waits_on }

-- A job that ends leaves the rows and stands last among the ended, and each job that waited on it waits on nobody.
unfoldable pub with_end : Row → End → ℕ → State → State
with_end row end tick s = record s {
  rows = map (option_map (freed row.job)) (slice_set s.rows row.job.tx.0 None);
  ended = s.ended ++ record { job = row.job; release = row.release; end = end; tick = tick } ∷ [];
}

-- whether a pending job's deadline is this tick
abbrev pub is_due : Set → ℕ → Row → Bool
is_due set tick row = row.release + (txn_of set row.job.tx.0).deadline == tick

abbrev pub with_late : ℕ → State → Row → State
with_late tick s row = with_end row Late tick s

-- each job whose deadline is this tick ends Late, in falling priority
unfoldable pub with_cancellations : Set → ℕ → State → State
with_cancellations set tick s = fold (with_late tick) s (in_falling_priority set (filter (is_due set tick) (pending s.rows)))

-- a job becomes pending
abbrev pub with_row : ℕ → List (Option Row) → JobId → List (Option Row)
with_row tick rows job = slice_set rows job.tx.0 (Some (new_row job tick))

-- each release planned for this tick becomes a pending row
unfoldable pub with_releases : ℕ → State → State
with_releases tick s = record s {
  rows = fold (with_row tick) s.rows (map (λ r. r.job) (filter (λ r. r.tick == tick) s.planned));
  planned = filter (λ r. not (r.tick == tick)) s.planned;
}

-- to arrive at a tick
unfoldable pub arrived : Set → ℕ → State → State
arrived set tick s = with_releases tick (with_cancellations set tick (record s { now = tick }))
