use Rattle.std.proofs.Common.{◌∙◌, Err, rules}
use Rattle.report_text.specs.Head.{nothing, head_of}
use Rattle.report_text.proofs.HeadLaws.{rest_of, first_none, first_lines, first_bad, given, given_along}
use Rattle.report_text.proofs.read.head_in.Goals as goal

pub returns-in_default : goal.returns-in_default
returns-in_default c =
    given (Err c.end.result) (head_of c.args.bytes.now) (c.end.ensures ∙ first_none c.args.bytes.now (search rules))

pub returns-in-Some-version : goal.returns-in-Some-version
returns-in-Some-version c =
    given_along c.lines.result (rest_of c.in-Some-version.two nothing 2 c.in-Some.rest.now) (head_of c.args.bytes.now) c.lines.ensures (first_lines c.args.bytes.now c.in-Some.first.now c.in-Some.rest.now c.in-Some-version.two (search rules) (search rules))

pub returns-in-None : goal.returns-in-None
returns-in-None c = first_bad c.args.bytes.now c.in-Some.first.now c.in-Some.rest.now (search rules) (search rules)
