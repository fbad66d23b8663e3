use Rattle.std.proofs.Common.{◌≡◌, ◌∙◌, ◌+◌, ◌≤◌, length, Some, Err, sym, rules, arith}
use Rattle.line_fields.specs.Cuts.{cut_at}
use Rattle.report_text.specs.Head.{nothing}
use Rattle.report_text.proofs.PieceLaws.{shorter}
use Rattle.report_text.proofs.HeadLaws.{rest_of, goes_on, is_bad, is_mode, is_over, given}
use Rattle.report_text.proofs.read.Growing.take_lines.Goals as goal

pub returns-in-Ok-Bad : goal.returns-in-Ok-Bad
returns-in-Ok-Bad c =
    is_bad c.args.two c.loop-line.self c.line.new.self c.loop-line.n c.loop-line.rest.now c.in-Some.line.now c.in-Some.after.now (rest_of c.args.two nothing 2 c.args.bytes.now) (search rules) (search rules) c.loop-line.invariant.0

pub returns-in-Ok-Mode : goal.returns-in-Ok-Mode
returns-in-Ok-Mode c =
    is_mode c.args.two c.in-Ok-Mode.admitted c.loop-line.self c.line.new.self c.loop-line.n c.loop-line.rest.now c.in-Some.line.now c.in-Some.after.now (rest_of c.args.two nothing 2 c.args.bytes.now) (search rules) (search rules) c.loop-line.invariant.0

pub loop-line-preserved : goal.loop-line-preserved
loop-line-preserved c =
    let cut : Some (c.in-Some.line.now, c.in-Some.after.now) ≡ cut_at 10 c.loop-line.rest.now = search rules in
    let less : length c.in-Some.after.now + 1 ≤ length c.loop-line.rest.now = omega (arith, shorter 10 c.loop-line.rest.now c.in-Some.line.now c.in-Some.after.now (sym cut)) in (
      goes_on c.args.two c.loop-line.self c.line.new.self c.loop-line.n c.loop-line.rest.now c.in-Some.line.now c.in-Some.after.now (rest_of c.args.two nothing 2 c.args.bytes.now) cut (search rules) c.loop-line.invariant.0,
      omega (arith, less, c.loop-line.invariant.1),
      omega (arith, c.line.ensures.names, c.loop-line.invariant.2),
      omega (arith, c.line.ensures.txns, c.loop-line.invariant.3),
    )

pub returns : goal.returns
returns c =
    given (Err c.end.result) (rest_of c.args.two nothing 2 c.args.bytes.now) (c.end.ensures ∙ is_over c.args.two c.loop-line.self c.loop-line.n c.loop-line.rest.now (rest_of c.args.two nothing 2 c.args.bytes.now) (search rules) c.loop-line.invariant.0)
