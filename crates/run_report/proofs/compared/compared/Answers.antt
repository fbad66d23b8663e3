use Rattle.std.proofs.Common.{◌≡◌, ◌∙◌, ◌+◌, ◌≤◌, length, Some, sym, rules, arith}
use Rattle.line_fields.specs.Cuts.{cut_at}
use Rattle.report_text.proofs.PieceLaws.{shorter}
use Rattle.run_report.proofs.Comparing.{from_line, goes_on, differs, report_over, document_over, same_text}
use Rattle.run_report.proofs.compared.compared.Goals as goal

pub returns-then-eq : goal.returns-then-eq
returns-then-eq c = same_text c.args.names.now c.args.document.now c.args.report.now (search rules)

pub returns-in_default-cut : goal.returns-in_default-cut
returns-in_default-cut c =
    report_over c.args.names.now c.loop-line.n c.loop-line.left.now c.in-Some.line.now c.in-Some.more.now c.loop-line.right.now
    (from_line c.args.names.now 1 c.args.document.now c.args.report.now) (search rules) (search rules) c.loop-line.invariant.0

pub returns-then-not-same : goal.returns-then-not-same
returns-then-not-same c =
    c.wrong.ensures
    ∙ differs c.args.names.now c.loop-line.n c.loop-line.left.now c.in-Some.line.now c.in-Some.more.now c.loop-line.right.now
    c.in-Some-cut.other.now c.in-Some-cut.after.now (from_line c.args.names.now 1 c.args.document.now c.args.report.now)
    (search rules) (search rules) (search rules) c.loop-line.invariant.0

pub loop-line-preserved : goal.loop-line-preserved
loop-line-preserved c =
    let cut : Some (c.in-Some.line.now, c.in-Some.more.now) ≡ cut_at 10 c.loop-line.left.now = search rules in
    let less : length c.in-Some.more.now + 1 ≤ length c.loop-line.left.now = omega (arith, shorter 10 c.loop-line.left.now c.in-Some.line.now c.in-Some.more.now (sym cut)) in (
      goes_on c.args.names.now c.loop-line.n c.loop-line.left.now c.in-Some.line.now c.in-Some.more.now c.loop-line.right.now
          c.in-Some-cut.other.now c.in-Some-cut.after.now (from_line c.args.names.now 1 c.args.document.now c.args.report.now)
          cut (search rules) (search rules) c.loop-line.invariant.0,
      omega (arith, less, c.loop-line.invariant.1),
    )

pub returns : goal.returns
returns c =
    c.over.ensures c.args.names.now
    ∙ document_over c.args.names.now c.loop-line.n c.loop-line.left.now c.loop-line.right.now
    (from_line c.args.names.now 1 c.args.document.now c.args.report.now) (search rules) c.loop-line.invariant.0
