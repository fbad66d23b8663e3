use Rattle.law_runs.proofs.Fits.{run_fits}
use Rattle.law_runs.proofs.eager.run_fits.Goals as goal

pub returns : goal.returns
returns c = run_fits
