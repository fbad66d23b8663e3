use Rattle.law_times.proofs.Moving.{sets-alone}
use Rattle.law_times.proofs.priorities.sets_alone.Goals as goal

pub returns : goal.returns
returns c = sets-alone
