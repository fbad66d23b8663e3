-- The step of the core: from a state, an event gives one entry and one new state, or is no legal event.
use Rattle.std.specs.Prelude.{ℕ, ◌+◌, ◌-◌, ◌^◌, ◌==◌, nat_lt, nat_le, Bool, true, false, ◌&&◌, if◌then◌else◌, List, [], ◌∷◌, ◌++◌, min, length, Option, None, Some, slice_set, slice_index_or}
use Rattle.std.specs.List.{find}
use Rattle.std.specs.Option.{option_map, option_and_then}
use Rattle.rt_base.specs.declared.ids.JobId.{JobId}
use Rattle.rt_base.specs.declared.operation.Op.{Op}
use Rattle.rt_base.specs.declared.operation.Op.TheVariants.{Read, Write, Commit, Quit}
use Rattle.rt_base.specs.declared.operation.End.{End}
use Rattle.rt_base.specs.declared.operation.End.TheVariants as end
use Rattle.step_journal.specs.declared.entry.Entry.{Entry}
use Rattle.step_journal.specs.declared.entry.Entry.TheVariants.{Planned, Step, Blocked, Idle}
use Rattle.txn_set.specs.Set.{Set, txn_of, may_read, may_write}
use Rattle.item_model.specs.Work.{outcome_of, work_after, is_complete, verdict, items_after}
use Rattle.step_journal.specs.State.{State, Row, same_job, pending}
use Rattle.rt_base.specs.declared.release.Plans.{Plans}
use Rattle.rt_base.specs.declared.release.Release.{Release}
use Rattle.step_journal.specs.LockRule.{Above, needs_lock, refusal}
use Rattle.step_journal.specs.Running.{running, of_job}
use Rattle.step_journal.specs.Instant.{with_end, with_row, arrived}

pub data Event : Type 0 where
  plan : (tx tick : ℕ) → Event
  ask : (job : JobId) (op : Op) → Event
  idle : Event

-- the value, where the test is true
abbrev pub given : {A : Type 0} → Bool → A → Option A
given true a = Some a
given false a = None

-- Plan

abbrev pub plans_of : State → ℕ → Plans
plans_of s tx = slice_index_or s.plans tx (record { number = 0; last = 0 })

-- the earliest tick for the next job of a transaction: a period after the last planned tick, if there is one
abbrev pub earliest : Set → ℕ → Plans → ℕ
earliest set tx p = if p.number == 0 then 0 else p.last + (txn_of set tx).period

unfoldable pub may_plan : Set → State → ℕ → ℕ → Bool
may_plan set s tx tick =
    nat_lt tx (length set.txns) && nat_le s.now tick && nat_le tick (2 ^ 40) && nat_le (earliest set tx (plans_of s tx)) tick
    && nat_lt (length s.planned) 65536 && nat_lt (plans_of s tx).number (2 ^ 32 - 1)

abbrev pub next_job : State → ℕ → JobId
next_job s tx = record { tx = record { 0 = tx }; serial = (plans_of s tx).number }

-- the release is noted, and for the present tick the job is pending at once
unfoldable pub with_plan : State → ℕ → ℕ → State
with_plan s tx tick = record s {
  plans = slice_set s.plans tx (record { number = (plans_of s tx).number + 1; last = tick });
  planned = if tick == s.now then s.planned else s.planned ++ record { job = next_job s tx; tick = tick } ∷ [];
  rows = if tick == s.now then with_row tick s.rows (next_job s tx) else s.rows;
}

-- Ask

-- the operation is declared, comes after the quiet steps, and does not leave an item unwritten
abbrev pub may_ask : Set → Row → Op → Bool
may_ask set row (Read item) = may_read (txn_of set row.job.tx.0) item.0 && nat_le (txn_of set row.job.tx.0).quiet row.used
may_ask set row (Write item value) = may_write (txn_of set row.job.tx.0) item.0 && nat_le (txn_of set row.job.tx.0).quiet row.used
may_ask set row Commit = is_complete set.items (txn_of set row.job.tx.0).writes row.work
may_ask set row other = true

-- why the operation does not get the lock that it needs, if it does not
abbrev pub lock_refusal : Set → State → Row → Op → Option Above
lock_refusal set s row op = option_and_then (λ r. refusal set s.rows r) (given (needs_lock row.work op) row)

-- the row of a job after a step
abbrev pub row_after : State → Row → Op → Row
row_after s row op = record row { used = row.used + 1; work = work_after s.items row.work op }

-- how the step of this row ends the job, if it does
abbrev pub end_by_steps : Set → Row → Option End
end_by_steps set row = given (row.used == (txn_of set row.job.tx.0).steps) end.Overrun

abbrev pub end_by : Set → Row → ℕ → Op → Option End
end_by set row tick Commit = Some (verdict set.items set.together (txn_of set row.job.tx.0).reads row.work tick)
end_by set row tick Quit = Some end.Quit
end_by set row tick other = end_by_steps set row

-- the state after the effect: the row goes on, or the job ends with its writes installed or not
abbrev pub settled : Set → Row → ℕ → Option End → State → State
settled set row tick None s = record s { rows = slice_set s.rows row.job.tx.0 (Some row) }
settled set row tick (Some e) s =
    with_end row e tick (record s { items = items_after set.items row.work row.release e s.items })

unfoldable pub after_effect : Set → State → Row → Op → State
after_effect set s row op =
    settled set (row_after s row op) (s.now + 1) (end_by set (row_after s row op) (s.now + 1) op) s

unfoldable pub with_step : Set → State → Row → Op → State
with_step set s row op = arrived set (s.now + 1) (after_effect set s row op)

-- the end of a job, where it has ended
abbrev pub end_of : State → JobId → Option End
end_of s job = option_map (λ e. e.end) (find (λ e. same_job e.job job) s.ended)

unfoldable pub with_wait : State → Row → JobId → State
with_wait s row on = record s { rows = slice_set s.rows row.job.tx.0 (Some (record row { waits_on = Some on })) }

abbrev pub answered : Set → State → Row → Op → Option Above → Entry × State
answered set s row op None =
    let next = with_step set s row op in
    (Step row.job op (outcome_of s.items row.work op) (end_of next row.job) s.now, next)
answered set s row op (Some above) =
    (Blocked row.job op above.holder above.ceiling s.now, with_wait s row above.holder)

abbrev pub asked : Set → State → Op → Row → Option (Entry × State)
asked set s op row = given (may_ask set row op) (answered set s row op (lock_refusal set s row op))

-- Idle

-- the least planned tick
abbrev pub earlier : ℕ → Option ℕ → ℕ
earlier t None = t
earlier t (Some u) = min t u

abbrev pub next_tick : List Release → Option ℕ
next_tick [] = None
next_tick (r ∷ rs) = Some (earlier r.tick (next_tick rs))

-- with nothing pending, and something planned, the time goes on to the least planned tick
abbrev pub idled : Set → State → List Row → Option (Entry × State)
idled set s (row ∷ rows) = None
idled set s [] = option_map (λ t. (Idle s.now t, arrived set t s)) (next_tick s.planned)

-- The step

unfoldable pub step : Set → State → Event → Option (Entry × State)
step set s (plan tx tick) = given (may_plan set s tx tick) (Planned (record { 0 = tx }) tick, with_plan s tx tick)
step set s (ask job op) = option_and_then (asked set s op) (option_and_then (of_job job) (running set s.rows))
step set s idle = idled set s (pending s.rows)
