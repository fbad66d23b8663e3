use Rattle.std.proofs.Common.{sym, ◌∙◌, rules}
use Rattle.report_text.proofs.Reading.{at_end, not_end, none_left}
use Rattle.report_text.proofs.parts.end_fault.Goals as goal

pub returns-then-is_end : goal.returns-then-is_end
returns-then-is_end c =
    at_end c.args.n c.args.text.now c.in-Some.line.now c.in-Some.rest.now c.over_after.result (search rules)
    (sym c.is_end.ensures ∙ c.if-is_end.true) c.over_after.ensures

pub returns-else-is_end : goal.returns-else-is_end
returns-else-is_end c =
    not_end c.args.n c.args.text.now c.in-Some.line.now c.in-Some.rest.now (search rules)
    (sym c.is_end.ensures ∙ c.if-is_end.false)

pub returns-in-None : goal.returns-in-None
returns-in-None c = none_left c.args.n c.args.text.now c.no_end.result (search rules) c.no_end.ensures
