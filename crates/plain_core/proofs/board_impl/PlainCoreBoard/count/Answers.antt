use Rattle.std.proofs.Common.{arith}
use Rattle.plain_core.proofs.Idles.{history_fits}
use Rattle.plain_core.proofs.board_impl.PlainCoreBoard.count.Goals as goal

pub overflow_add-result : goal.overflow_add-result
overflow_add-result c = omega (arith, history_fits _ c.self.invariant, c.first.ensures, c.len.ensures)
