use Rattle.law_texts.proofs.Law.{read_back}
use Rattle.law_texts.proofs.read_back.data_read_back.Goals as goal

pub returns : goal.returns
returns c = read_back
