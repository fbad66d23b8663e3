use Rattle.std.proofs.Common.{◌∙◌, rules}
use Rattle.report_text.proofs.Reading.{second_some, second_none}
use Rattle.report_text.proofs.document.is_second.Goals as goal

pub returns-in-Some : goal.returns-in-Some
returns-in-Some c =
    c.is_second_version.ensures ∙ second_some c.args.bytes.now c.in-Some.line.now c.in-Some.field-0-1.now (search rules)

pub returns-in-None : goal.returns-in-None
returns-in-None c = second_none c.args.bytes.now (search rules)
