use Rattle.std.proofs.Common.{◌∙◌}
use Rattle.std.proofs.lemmas.Result.{IfOk-weaker}
use Rattle.run_report.proofs.Reported.{reported_by}
use Rattle.run_report.proofs.told.is_report.Goals as goal

pub returns : goal.returns
returns c =
    let front = c.in-Ok in
    let made = c.in-Ok-compile_head in
    IfOk-weaker c.is_told_in.result _ _
    (λ is told true_is.
    reported_by c.report_is_legal.ensures c.compiled_unless_refused.ensures c.args.bytes.now front.front.head front.front.entries _ _ _
    front.ensures.head front.ensures.good made.ensures.passed front.ensures.lines c.as_slice.ensures
    (c.names-in-Ok-compile_head.ensures ∙ made.ensures.names) made.ensures.set (told true_is))
    c.is_told_in.ensures
