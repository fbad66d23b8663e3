use Rattle.std.proofs.Common.{arith}
use Rattle.lock_core.specs.Seen.{core_of}
use Rattle.lock_core.proofs.Stood.{tally_fits}
use Rattle.lock_core.proofs.core_board.Core.ended.Goals as goal

pub overflow_cast-result : goal.overflow_cast-result
overflow_cast-result c =
    omega (arith, tally_fits (core_of c.self.inside.set c.self.inside.journal c.self.inside.tables) c.args.tx.0 _ c.self.invariant c.tally.ensures)
