use Rattle.report_text.proofs.GoodHead.{given_good}
use Rattle.report_text.proofs.read.read_head.Goals as goal

pub returns-clause-good : goal.returns-clause-good
returns-clause-good c = given_good _ _ c.head_in.ensures
