use Rattle.std.proofs.Common.{ap, arith, length}
use Rattle.lock_core.specs.Seen.{CoreSeen}
use Rattle.lock_core.proofs.Stood.{fit}
use Rattle.lock_core.proofs.core_board.Core.peek.Goals as goal

pub item-requires : goal.item-requires
item-requires c = omega (arith, c.requires, (fit _ c.self.invariant).items, ap (λ (p : CoreSeen). length p.set.items) c.self.view_is)
