use Rattle.std.proofs.Common.{◌∙◌, codes, sym}
use Rattle.journal_text.proofs.EntryLaws.{step_in}
use Rattle.journal_text.proofs.NextLaws.{after_lacks, fields_are, fields_fit, step_is}
use Rattle.journal_text.proofs.next_step.NextStep.read_fields.Goals as goal

pub slice_bounds-note-count : goal.slice_bounds-note-count
slice_bounds-note-count c =
    fields_fit c.args.names.now c.in_ok-rest.rest.now c.in_ok-job.more.now c.in_ok-tick.more.now c.in_ok-job.job c.in_ok-tick.tick
    c.in_ok-job.ensures c.in_ok-tick.ensures

pub returns-clause-value : goal.returns-clause-value
returns-clause-value c =
    step_is c.args.names.now c.in_ok-rest.rest.now c.in_ok-job.more.now c.in_ok-tick.more.now c.in_ok-job.job c.in_ok-tick.tick
    c.in_ok-job.ensures c.in_ok-tick.ensures
    ∙ sym (step_in c.args.names.now c.args.line.now c.in_ok-rest.rest.now c.in_ok-rest.ensures.0 c.in_ok-rest.ensures.1)

pub returns-clause-next : goal.returns-clause-next
returns-clause-next c =
    let f = fields_are c.args.names.now c.in_ok-rest.rest.now c.in_ok-job.more.now c.in_ok-tick.more.now c.in_ok-job.job c.in_ok-tick.tick
    (after_lacks 10 c.args.line.now (codes "step") c.in_ok-rest.rest.now c.in_ok-rest.ensures.0 c.requires.lacks)
    c.in_ok-job.ensures c.in_ok-tick.ensures in
    c.note.ensures.next c.args.names.now f.word f.all f.is f.blank f.no_end
