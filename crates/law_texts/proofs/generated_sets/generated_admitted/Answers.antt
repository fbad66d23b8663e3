use Rattle.law_texts.proofs.Admitted.{admitted}
use Rattle.law_texts.proofs.generated_sets.generated_admitted.Goals as goal

pub returns : goal.returns
returns c = admitted
