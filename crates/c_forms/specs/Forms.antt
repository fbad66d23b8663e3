-- Answers as plain records.
use Rattle.std.specs.Prelude.{ℕ, pos, ◌==◌, if◌then◌else◌, Option, None, Some, Result, Ok, Err}
use Rattle.rt_base.specs.declared.ids.JobId.{JobId}
use Rattle.rt_base.specs.declared.operation.Op.{Op}
use Rattle.rt_base.specs.declared.operation.Op.TheVariants as op
use Rattle.rt_base.specs.declared.operation.End.{End}
use Rattle.rt_base.specs.declared.operation.End.TheVariants as end
use Rattle.rt_base.specs.declared.operation.Outcome.{Outcome}
use Rattle.rt_base.specs.declared.operation.Outcome.TheVariants as outcome
use Rattle.rt_base.specs.declared.release.PlanRefused.{PlanRefused}
use Rattle.rt_base.specs.declared.release.PlanRefused.TheVariants as refused
use Rattle.board.specs.declared.replies.StepReply.{StepReply}
use Rattle.board.specs.declared.replies.StepReply.TheVariants as reply
use Rattle.board.specs.declared.replies.IdleReply.{IdleReply}
use Rattle.board.specs.declared.replies.IdleReply.TheVariants as idle
use Rattle.step_journal.specs.declared.entry.Entry.{Entry}
use Rattle.step_journal.specs.declared.entry.Entry.TheVariants as entry
use Rattle.c_forms.specs.declared.forms.JobForm.{JobForm}
use Rattle.c_forms.specs.declared.forms.OpForm.{OpForm}
use Rattle.c_forms.specs.declared.forms.EndForm.{EndForm}
use Rattle.c_forms.specs.declared.forms.StepForm.{StepForm}
use Rattle.c_forms.specs.declared.forms.TimeForm.{TimeForm}
use Rattle.c_forms.specs.declared.entries.EntryForm.{EntryForm}

-- the operation that a record names
abbrev pub op_named : OpForm → Option Op
op_named form =
    if form.code == 0 then Some (op.Read (record { 0 = form.item }))
    else (if form.code == 1 then Some (op.Write (record { 0 = form.item }) form.value)
    else (if form.code == 2 then Some op.Compute
    else (if form.code == 3 then Some op.Commit
    else (if form.code == 4 then Some op.Quit else None))))

abbrev pub form_of_job : JobId → JobForm
form_of_job job = record { tx = job.tx.0; serial = job.serial }

-- the job that a record names
abbrev pub job_of : JobForm → JobId
job_of job = record { tx = record { 0 = job.tx }; serial = job.serial }

abbrev pub no_job : JobForm
no_job = record { tx = 0; serial = 0 }

abbrev pub no_end : EndForm
no_end = record { kind = 0; item = 0; other = 0; stamp = 0 }

-- which number an outcome has, and an end
abbrev pub number_of_outcome : Outcome → ℕ
number_of_outcome (outcome.Got value stamp) = 0
number_of_outcome outcome.Put = 1
number_of_outcome outcome.Computed = 2
number_of_outcome outcome.Closed = 3

abbrev pub number_of_end : End → ℕ
number_of_end end.Committed = 1
number_of_end end.Overrun = 2
number_of_end end.Late = 3
number_of_end (end.Stale item stamp) = 4
number_of_end (end.Apart a b) = 5
number_of_end end.Quit = 6

abbrev pub form_of_end : Option End → EndForm
form_of_end None = no_end
form_of_end (Some (end.Stale item stamp)) = record no_end { kind = 4; item = item.0; stamp = stamp }
form_of_end (Some (end.Apart a b)) = record no_end { kind = 5; item = a.0; other = b.0 }
form_of_end (Some other) = record no_end { kind = number_of_end other }

-- the end that a record says
abbrev pub end_of : EndForm → Option End
end_of form =
    if form.kind == 1 then Some end.Committed
    else (if form.kind == 2 then Some end.Overrun
    else (if form.kind == 3 then Some end.Late
    else (if form.kind == 4 then Some (end.Stale (record { 0 = form.item }) form.stamp)
    else (if form.kind == 5 then Some (end.Apart (record { 0 = form.item }) (record { 0 = form.other }))
    else (if form.kind == 6 then Some end.Quit else None)))))

-- a record of an answer without numbers
abbrev pub bare_step : ℕ → StepForm
bare_step reply = record { reply = reply; outcome = 0; job = no_job; item = 0; ceiling = 0; count = 0; value = pos 0; stamp = 0; has_stamp = 0; over = no_end }

abbrev pub with_outcome : Outcome → StepForm → StepForm
with_outcome (outcome.Got value None) form = record form { value = value }
with_outcome (outcome.Got value (Some stamp)) form = record form { value = value; stamp = stamp; has_stamp = 1 }
with_outcome outcome.Put form = record form { outcome = 1 }
with_outcome outcome.Computed form = record form { outcome = 2 }
with_outcome outcome.Closed form = record form { outcome = 3 }

abbrev pub form_of_step : StepReply → StepForm
form_of_step (reply.Done outcome over) = with_outcome outcome (record (bare_step 0) { over = form_of_end over })
form_of_step (reply.Blocked by ceiling) = record (bare_step 1) { job = form_of_job by; ceiling = ceiling }
form_of_step (reply.NoJob ended last) = record (bare_step 2) { count = ended; over = form_of_end last }
form_of_step (reply.NotYet running) = record (bare_step 3) { job = form_of_job running }
form_of_step (reply.Undeclared item) = record (bare_step 4) { item = item.0 }
form_of_step (reply.TooEarly left) = record (bare_step 5) { count = left }
form_of_step (reply.Unwritten item) = record (bare_step 6) { item = item.0 }
form_of_step (reply.Full room) = record (bare_step 7) { count = room }

abbrev pub bare_time : ℕ → TimeForm
bare_time reply = record { reply = reply; job = no_job; tick = 0; count = 0 }

abbrev pub form_of_refused : PlanRefused → TimeForm
form_of_refused (refused.Past now) = record (bare_time 1) { tick = now }
form_of_refused (refused.TooSoon earliest) = record (bare_time 2) { tick = earliest }
form_of_refused (refused.TooFar limit) = record (bare_time 3) { tick = limit }
form_of_refused (refused.CalendarFull room) = record (bare_time 4) { count = room }
form_of_refused (refused.NoSerial planned) = record (bare_time 5) { count = planned }
form_of_refused (refused.Full room) = record (bare_time 6) { count = room }

-- of a plan for a tick
abbrev pub form_of_plan : ℕ → Result JobId PlanRefused → TimeForm
form_of_plan tick (Ok job) = record (bare_time 0) { job = form_of_job job; tick = tick }
form_of_plan tick (Err e) = form_of_refused e

abbrev pub form_of_plan_next : Result (JobId × ℕ) PlanRefused → TimeForm
form_of_plan_next (Ok p) = record (bare_time 0) { job = form_of_job p.0; tick = p.1 }
form_of_plan_next (Err e) = form_of_refused e

abbrev pub form_of_idle : IdleReply → TimeForm
form_of_idle (idle.Advanced to) = record (bare_time 0) { tick = to }
form_of_idle (idle.NotIdle running) = record (bare_time 7) { job = form_of_job running }
form_of_idle idle.Nothing = bare_time 8
form_of_idle (idle.Full room) = record (bare_time 6) { count = room }

abbrev pub bare_entry : ℕ → EntryForm
bare_entry kind = record { kind = kind; operation = 0; job = no_job; item = 0; value = pos 0; tick = 0; to = 0; answer = bare_step 0 }

-- the operation of an entry, as a call takes it
abbrev pub form_of_asked : EntryForm → OpForm
form_of_asked form = record { code = form.operation; item = form.item; value = form.value }

abbrev pub with_op : Op → EntryForm → EntryForm
with_op (op.Read item) form = record form { item = item.0 }
with_op (op.Write item value) form = record form { operation = 1; item = item.0; value = value }
with_op op.Compute form = record form { operation = 2 }
with_op op.Commit form = record form { operation = 3 }
with_op op.Quit form = record form { operation = 4 }

abbrev pub form_of_entry : Entry → EntryForm
form_of_entry (entry.Planned tx tick) = record (bare_entry 0) { job = record { tx = tx.0; serial = 0 }; tick = tick }
form_of_entry (entry.Step job asked outcome over tick) = with_op asked (record (bare_entry 1) { job = form_of_job job; tick = tick; answer = form_of_step (reply.Done outcome over) })
form_of_entry (entry.Blocked job asked by ceiling tick) = with_op asked (record (bare_entry 2) { job = form_of_job job; tick = tick; answer = form_of_step (reply.Blocked by ceiling) })
form_of_entry (entry.Idle from to) = record (bare_entry 3) { tick = from; to = to }
