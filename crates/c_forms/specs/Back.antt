-- What a record says: each conversion into a record, read back.
use Rattle.std.specs.Prelude.{ℕ, ◌==◌, if◌then◌else◌, unwrap_or, None, Some, Result, Ok, Err}
use Rattle.rt_base.specs.declared.ids.JobId.{JobId}
use Rattle.rt_base.specs.declared.operation.Op.{Op}
use Rattle.rt_base.specs.declared.operation.Op.TheVariants as op
use Rattle.rt_base.specs.declared.operation.Outcome.{Outcome}
use Rattle.rt_base.specs.declared.operation.Outcome.TheVariants as outcome
use Rattle.rt_base.specs.declared.release.PlanRefused.{PlanRefused}
use Rattle.rt_base.specs.declared.release.PlanRefused.TheVariants as refused
use Rattle.board.specs.declared.replies.StepReply.{StepReply}
use Rattle.board.specs.declared.replies.StepReply.TheVariants as reply
use Rattle.board.specs.declared.replies.IdleReply.{IdleReply}
use Rattle.board.specs.declared.replies.IdleReply.TheVariants as idle
use Rattle.step_journal.specs.declared.entry.Entry.{Entry}
use Rattle.step_journal.specs.declared.entry.Entry.TheVariants as entry
use Rattle.c_forms.specs.declared.forms.StepForm.{StepForm}
use Rattle.c_forms.specs.declared.forms.TimeForm.{TimeForm}
use Rattle.c_forms.specs.declared.entries.EntryForm.{EntryForm}
use Rattle.c_forms.specs.Forms.{op_named, job_of, end_of, form_of_asked}

abbrev pub outcome_of : StepForm → Outcome
outcome_of form =
    if form.outcome == 0 then outcome.Got form.value (if form.has_stamp == 1 then Some form.stamp else None)
    else (if form.outcome == 1 then outcome.Put
    else (if form.outcome == 2 then outcome.Computed else outcome.Closed))

abbrev pub step_of : StepForm → StepReply
step_of form =
    if form.reply == 0 then reply.Done (outcome_of form) (end_of form.over)
    else (if form.reply == 1 then reply.Blocked (job_of form.job) form.ceiling
    else (if form.reply == 2 then reply.NoJob form.count (end_of form.over)
    else (if form.reply == 3 then reply.NotYet (job_of form.job)
    else (if form.reply == 4 then reply.Undeclared (record { 0 = form.item })
    else (if form.reply == 5 then reply.TooEarly form.count
    else (if form.reply == 6 then reply.Unwritten (record { 0 = form.item }) else reply.Full form.count))))))

abbrev pub refused_of : TimeForm → PlanRefused
refused_of form =
    if form.reply == 1 then refused.Past form.tick
    else (if form.reply == 2 then refused.TooSoon form.tick
    else (if form.reply == 3 then refused.TooFar form.tick
    else (if form.reply == 4 then refused.CalendarFull form.count
    else (if form.reply == 5 then refused.NoSerial form.count else refused.Full form.count))))

abbrev pub plan_of : TimeForm → Result JobId PlanRefused
plan_of form = if form.reply == 0 then Ok (job_of form.job) else Err (refused_of form)

abbrev pub plan_next_of : TimeForm → Result (JobId × ℕ) PlanRefused
plan_next_of form = if form.reply == 0 then Ok (job_of form.job, form.tick) else Err (refused_of form)

abbrev pub idle_of : TimeForm → IdleReply
idle_of form =
    if form.reply == 0 then idle.Advanced form.tick
    else (if form.reply == 7 then idle.NotIdle (job_of form.job)
    else (if form.reply == 8 then idle.Nothing else idle.Full form.count))

-- any other number is a quit
abbrev pub asked_of : EntryForm → Op
asked_of form = unwrap_or (op_named (form_of_asked form)) op.Quit

abbrev pub entry_of : EntryForm → Entry
entry_of form =
    if form.kind == 0 then entry.Planned (record { 0 = form.job.tx }) form.tick
    else (if form.kind == 1 then entry.Step (job_of form.job) (asked_of form) (outcome_of form.answer) (end_of form.answer.over) form.tick
    else (if form.kind == 2 then entry.Blocked (job_of form.job) (asked_of form) (job_of form.answer.job) form.answer.ceiling form.tick
    else entry.Idle form.tick form.to))
