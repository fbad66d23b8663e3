use Rattle.law_texts.proofs.Shown.{rows_tell_ends}
use Rattle.law_texts.proofs.pictures.rows_tell_ends.Goals as goal

pub returns : goal.returns
returns c = rows_tell_ends
