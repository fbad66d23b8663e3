use Rattle.law_texts.proofs.Shown.{shows_each}
use Rattle.law_texts.proofs.pictures.marks_show_each.Goals as goal

pub returns : goal.returns
returns c = shows_each
