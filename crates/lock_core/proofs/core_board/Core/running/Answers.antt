use Rattle.lock_core.proofs.Stood.{lawful}
use Rattle.lock_core.proofs.core_board.Core.running.Goals as goal

pub returns-clause-no_cycle : goal.returns-clause-no_cycle
returns-clause-no_cycle c = λ history h. (lawful _ history h).never_stuck
