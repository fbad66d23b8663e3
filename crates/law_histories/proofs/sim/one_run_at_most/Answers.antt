use Rattle.law_histories.proofs.Once.{one_sim}
use Rattle.law_histories.proofs.sim.one_run_at_most.Goals as goal

pub returns : goal.returns
returns c = one_sim
