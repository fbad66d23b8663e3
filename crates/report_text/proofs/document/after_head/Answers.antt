use Rattle.std.proofs.Common.{arith}
use Rattle.report_text.proofs.Counted.{few_lines, head_within}
use Rattle.std.proofs.lemmas.Result.{IfOk-weaker}
use Rattle.report_text.proofs.Places.{stand_along}
use Rattle.report_text.proofs.document.after_head.Goals as goal

pub body-requires : goal.body-requires
body-requires c =
    omega (arith, c.after_lines-rest.ensures.len, head_within c.args.bytes.now c.args.head c.requires.read, few_lines c.args.bytes.now, c.requires.few)

pub returns-clause-places : goal.returns-clause-places
returns-clause-places c =
    IfOk-weaker c.body.result _ _
    (λ p s. stand_along c.args.head.names p.document.entries c.args.bytes.now c.after_lines-rest.result.now p.left p.after c.after_lines-rest.ensures.ends s)
    c.body.ensures.places
