use Rattle.law_texts.proofs.ReportLaw.{run_whole}
use Rattle.law_texts.proofs.sizes.run_is_read_whole.Goals as goal

pub returns : goal.returns
returns c = run_whole c.response.ensures.found
