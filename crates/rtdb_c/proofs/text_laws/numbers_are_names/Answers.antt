use Rattle.rtdb_c.proofs.Told.{numbers_named}
use Rattle.rtdb_c.proofs.text_laws.numbers_are_names.Goals as goal

pub returns : goal.returns
returns c = numbers_named
