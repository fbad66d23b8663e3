use Rattle.plain_core.proofs.Idles.{history_fits}
use Rattle.plain_core.proofs.board_impl.PlainCoreBoard.discard.Goals as goal

pub discard-requires : goal.discard-requires
discard-requires c = history_fits _ c.self.invariant
