use Rattle.report_text.proofs.Places.{along}
use Rattle.report_text.proofs.parts.to_entries.Goals as goal

pub returns-clause-ends : goal.returns-clause-ends
returns-clause-ends c =
    along c.args.text.now c.skip-n-2.result.0.now c.skip.result.0.now
    (along c.args.text.now c.skip-n.result.0.now c.skip-n-2.result.0.now c.skip-n.ensures.ends c.skip-n-2.ensures.ends)
    c.skip.ensures.ends
