use Rattle.law_texts.proofs.Law.{text_read_back}
use Rattle.law_texts.proofs.read_back.texts_read_back.Goals as goal

pub returns : goal.returns
returns c = text_read_back
