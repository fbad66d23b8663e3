use Rattle.set_admission.proofs.Admitted.{decided}
use Rattle.set_admission.proofs.admitted_unless_refused.Goals as goal

pub returns : goal.returns
returns c = decided
