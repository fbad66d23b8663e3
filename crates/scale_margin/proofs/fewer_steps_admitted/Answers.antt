use Rattle.scale_margin.proofs.Fewer.{keeps_admitted}
use Rattle.scale_margin.proofs.fewer_steps_admitted.Goals as goal

pub returns : goal.returns
returns c = λ set few many less meets. keeps_admitted few many less set meets
