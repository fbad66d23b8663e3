use Rattle.law_times.proofs.Levels.{age_bounds}
use Rattle.law_times.proofs.ages.age_bounds.Goals as goal

pub returns : goal.returns
returns c = age_bounds
