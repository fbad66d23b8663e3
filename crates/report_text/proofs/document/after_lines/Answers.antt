use Rattle.std.proofs.Common.{ap, drop, ◌∙◌, arith}
use Rattle.report_text.specs.Document.{lines_of}
use Rattle.report_text.proofs.Walking.{drop_more}
use Rattle.report_text.proofs.Places.{along}
use Rattle.report_text.proofs.document.after_lines.Goals as goal

pub loop-i-preserved : goal.loop-i-preserved
loop-i-preserved c = (
  c.after_line-rest.ensures.left ∙ (ap (drop 1) c.loop-i.invariant.0 ∙ drop_more c.loop-i.i (lines_of c.args.bytes.now).0),
  c.after_line-rest.ensures.last ∙ c.loop-i.invariant.1,
  omega (arith, c.after_line-rest.ensures.len, c.loop-i.invariant.2),
  along c.args.bytes.now c.loop-i.rest.now c.after_line-rest.result.now c.loop-i.invariant.3 c.after_line-rest.ensures.ends,
)
