use Rattle.lock_core.proofs.Stood.{history_fits}
use Rattle.lock_core.proofs.core_board.Core.drain.Goals as goal

pub drain_into-requires : goal.drain_into-requires
drain_into-requires c = history_fits _ c.self.invariant
