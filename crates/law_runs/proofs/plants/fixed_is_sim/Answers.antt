use Rattle.law_runs.proofs.Fixed.{fixed_sim, fixed_under_way, sim_is_run}
use Rattle.law_runs.proofs.plants.fixed_is_sim.Goals as goal

pub returns-clause-sim : goal.returns-clause-sim
returns-clause-sim c = fixed_sim

pub returns-clause-under_way : goal.returns-clause-under_way
returns-clause-under_way c = fixed_under_way

pub returns-clause-run : goal.returns-clause-run
returns-clause-run c = sim_is_run
