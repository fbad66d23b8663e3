use Rattle.set_admission.proofs.Falling.{stands_falling}
use Rattle.set_admission.proofs.falling_priority.Goals as goal

pub returns : goal.returns
returns c = stands_falling
