use Rattle.update_rates.proofs.Tight.{periods-are-greatest}
use Rattle.update_rates.proofs.periods_are_greatest.Goals as goal

pub returns : goal.returns
returns c = periods-are-greatest
