use Rattle.rtdb_c.proofs.Told.{refusals_told}
use Rattle.rtdb_c.proofs.text_laws.refusals_are_told.Goals as goal

pub returns : goal.returns
returns c = refusals_told
