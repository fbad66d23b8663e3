use Rattle.lock_core.proofs.Stood.{lawful}
use Rattle.lock_core.proofs.core_board.Core.is_lawful.Goals as goal

pub returns : goal.returns
returns c = λ history h. lawful _ history h
