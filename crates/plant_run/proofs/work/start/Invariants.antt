use Rattle.law_histories.specs.Sim.{plans_from}
use Rattle.plant_run.proofs.work.start.Given as goal

abbrev pub ghosts-start_on : goal.ghosts-start_on
ghosts-start_on g a = record { past = plans_from 0 a.releases.now }
