use Rattle.law_texts.proofs.PicturePieces.{goes_through}
use Rattle.law_texts.proofs.pictures.each_tick_has_an_entry.Goals as goal

pub returns : goal.returns
returns c = goes_through
