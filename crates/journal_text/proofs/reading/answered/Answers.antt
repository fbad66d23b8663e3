use Rattle.std.proofs.Common.{sym, ap, ◌∙◌}
use Rattle.journal_text.specs.Reading.{outcome_of, answers_of}
use Rattle.journal_text.proofs.PartLaws.{op_compute, op_write, op_read, op_commit}
use Rattle.journal_text.proofs.reading.answered.Goals as goal

pub returns-in-Some : goal.returns-in-Some
unfolding outcome_of
returns-in-Some c = sym (ap answers_of (op_compute c.args.names.now c.args.rest.now c.in-Some.rest.now c.in-Some.ensures.0 c.in-Some.ensures.1))

pub returns-in-Some-after : goal.returns-in-Some-after
returns-in-Some-after c =
    c.answered_write.ensures
    ∙ sym (ap answers_of (op_write c.args.names.now c.args.rest.now c.in-Some-after.rest.now c.in-Some-after.ensures.0 c.in-Some-after.ensures.1))

pub returns-in-Some-after-2 : goal.returns-in-Some-after-2
returns-in-Some-after-2 c =
    c.answered_read.ensures
    ∙ sym (ap answers_of (op_read c.args.names.now c.args.rest.now c.in-Some-after-2.rest.now c.in-Some-after-2.ensures.0 c.in-Some-after-2.ensures.1))

pub returns-in-Some-after-3 : goal.returns-in-Some-after-3
unfolding outcome_of
returns-in-Some-after-3 c =
    sym (ap answers_of (op_commit c.args.names.now c.args.rest.now c.in-Some-after-3.rest.now c.in-Some-after-3.ensures.0 c.in-Some-after-3.ensures.1))
