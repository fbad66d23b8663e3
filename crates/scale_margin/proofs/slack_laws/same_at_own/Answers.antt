use Rattle.scale_margin.proofs.Counts.{same_at_own}
use Rattle.scale_margin.proofs.slack_laws.same_at_own.Goals as goal

pub returns : goal.returns
returns c = same_at_own
