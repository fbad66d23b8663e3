use Rattle.std.proofs.Common.{arith}
use Rattle.report_text.proofs.Counted.{few_lines, head_within}
use Rattle.std.proofs.lemmas.Result.{IfOk-weaker}
use Rattle.report_text.proofs.Places.{stand_along}
use Rattle.report_text.proofs.document.front_after.Goals as goal

pub overflow_add-n : goal.overflow_add-n
overflow_add-n c =
    omega (arith, head_within c.args.bytes.now c.args.head c.requires.read, few_lines c.args.bytes.now, c.requires.few)

pub front_from-requires : goal.front_from-requires
front_from-requires c =
    omega (arith, c.after_lines-rest.ensures.len, head_within c.args.bytes.now c.args.head c.requires.read, few_lines c.args.bytes.now, c.requires.few)

pub returns-clause-places : goal.returns-clause-places
returns-clause-places c =
    IfOk-weaker c.front_from.result _ _
    (λ f s. stand_along c.args.head.names f.entries c.args.bytes.now c.after_lines-rest.result.now f.left f.after c.after_lines-rest.ensures.ends s)
    c.front_from.ensures.places
