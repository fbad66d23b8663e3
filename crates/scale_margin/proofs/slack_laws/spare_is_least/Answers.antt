use Rattle.scale_margin.proofs.Sparing.{spare_is_least}
use Rattle.scale_margin.proofs.slack_laws.spare_is_least.Goals as goal

pub returns : goal.returns
returns c = spare_is_least
