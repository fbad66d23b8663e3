use Rattle.std.proofs.Common.{arith}
use Rattle.lock_core.proofs.Stood.{history_fits}
use Rattle.lock_core.proofs.core_board.Core.count.Goals as goal

pub overflow_add-result : goal.overflow_add-result
overflow_add-result c = omega (arith, history_fits _ c.self.invariant, c.first.ensures, c.len.ensures)
