use Rattle.std.proofs.Common.{rules}
use Rattle.report_text.specs.Forms.{section_form}
use Rattle.report_text.proofs.Walking.{goes_on, stops, ends}
use Rattle.report_text.proofs.Places.{past_line}
use Rattle.report_text.proofs.parts.skip.Goals as goal

pub returns-in-None-clause-moves : goal.returns-in-None-clause-moves
returns-in-None-clause-moves c =
    stops (section_form c.args.section c.args.kind c.args.names.now) c.args.first c.args.text.now c.loop-line.n c.loop-line.rest.now
    c.in-Some.line.now c.in-Some.more.now (search rules) (search rules) c.loop-line.invariant.0

pub loop-line-preserved : goal.loop-line-preserved
loop-line-preserved c = (
  goes_on (section_form c.args.section c.args.kind c.args.names.now) c.args.first c.args.text.now c.loop-line.n c.loop-line.rest.now
      c.in-Some.line.now c.in-Some.more.now tt (search rules) (search rules) c.loop-line.invariant.0,
  past_line c.args.text.now c.loop-line.rest.now c.in-Some.line.now c.in-Some.more.now (search rules) c.loop-line.invariant.1,
)

pub returns-clause-moves : goal.returns-clause-moves
returns-clause-moves c =
    ends (section_form c.args.section c.args.kind c.args.names.now) c.args.first c.args.text.now c.loop-line.n c.loop-line.rest.now
    (search rules) c.loop-line.invariant.0
