use Rattle.std.proofs.Common.{sym, ap, drop, ◌∙◌, rules}
use Rattle.report_text.proofs.Walking.{first_line, same_last, no_line}
use Rattle.report_text.proofs.Places.{whole, past_line}
use Rattle.report_text.proofs.document.after_line.Goals as goal

pub returns-in-Some-clause-left : goal.returns-in-Some-clause-left
returns-in-Some-clause-left c =
    sym (ap (drop 1) (first_line c.args.bytes.now c.in-Some.field-0-0.now c.in-Some.rest.now (search rules)))

pub returns-in-Some-clause-last : goal.returns-in-Some-clause-last
returns-in-Some-clause-last c = sym (same_last c.args.bytes.now c.in-Some.field-0-0.now c.in-Some.rest.now (search rules))

pub returns-in-Some-clause-ends : goal.returns-in-Some-clause-ends
returns-in-Some-clause-ends c =
    past_line c.args.bytes.now c.args.bytes.now c.in-Some.field-0-0.now c.in-Some.rest.now (search rules) (whole c.args.bytes.now)

pub returns-in-None-clause-left : goal.returns-in-None-clause-left
returns-in-None-clause-left c =
    no_line c.args.bytes.now (search rules) ∙ sym (ap (drop 1) (no_line c.args.bytes.now (search rules)))
