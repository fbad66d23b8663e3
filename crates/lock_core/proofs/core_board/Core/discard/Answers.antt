use Rattle.lock_core.proofs.Stood.{history_fits}
use Rattle.lock_core.proofs.core_board.Core.discard.Goals as goal

pub discard-requires : goal.discard-requires
discard-requires c = history_fits _ c.self.invariant
