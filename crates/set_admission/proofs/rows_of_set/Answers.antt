use Rattle.set_admission.proofs.Agree.{rows_agree}
use Rattle.set_admission.proofs.rows_of_set.Goals as goal

pub returns : goal.returns
returns c = rows_agree
