use Rattle.std.proofs.Common.{ap, arith, length}
use Rattle.lock_core.specs.Seen.{CoreSeen}
use Rattle.lock_core.proofs.Stood.{fit}
use Rattle.lock_core.proofs.core_board.Core.pending.Goals as goal

pub pending-requires : goal.pending-requires
pending-requires c = omega (arith, c.requires, (fit _ c.self.invariant).rows, ap (λ (p : CoreSeen). length p.set.txns) c.self.view_is)
