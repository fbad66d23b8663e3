use Rattle.scale_margin.proofs.Percents.{same_at_hundred}
use Rattle.scale_margin.proofs.same_at_hundred.Goals as goal

pub returns : goal.returns
returns c = same_at_hundred
