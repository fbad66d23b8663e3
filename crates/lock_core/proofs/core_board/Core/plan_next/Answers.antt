use Rattle.std.proofs.Common.{ap, arith, length}
use Rattle.lock_core.specs.Seen.{CoreSeen}
use Rattle.lock_core.proofs.Stood.{fit}
use Rattle.lock_core.proofs.core_board.Core.plan_next.Goals as goal

pub next_for-tick-requires : goal.next_for-tick-requires
next_for-tick-requires c = omega (arith, c.requires, (fit _ c.self.invariant).periods, ap (λ (p : CoreSeen). length p.set.txns) c.self.view_is)
