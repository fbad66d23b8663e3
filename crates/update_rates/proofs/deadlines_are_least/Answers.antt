use Rattle.update_rates.proofs.Levels.{deadlines-are-least}
use Rattle.update_rates.proofs.deadlines_are_least.Goals as goal

pub returns : goal.returns
returns c = deadlines-are-least
