use Rattle.report_text.proofs.HeadAgain.{head_is_read_back}
use Rattle.report_text.proofs.laws.head_is_read_back.Goals as goal

pub returns : goal.returns
returns c = head_is_read_back
