use Rattle.set_admission.proofs.Kept.{keeps_bounds}
use Rattle.set_admission.proofs.admitted_keeps_bounds.Goals as goal

pub returns : goal.returns
returns c = keeps_bounds
