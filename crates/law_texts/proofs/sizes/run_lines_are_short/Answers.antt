use Rattle.law_texts.proofs.ReportLaw.{run_lines}
use Rattle.law_texts.proofs.sizes.run_lines_are_short.Goals as goal

pub returns : goal.returns
returns c = run_lines
