use Rattle.law_runs.proofs.Closing.{front_so_far}
use Rattle.law_runs.proofs.eager.front_so_far.Goals as goal

pub returns : goal.returns
returns c = front_so_far
