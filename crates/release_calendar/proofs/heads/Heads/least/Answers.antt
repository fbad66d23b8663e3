use Rattle.std.proofs.Common.{ℕ, List, map, sym, subst}
use Rattle.release_calendar.specs.Heads.{IsLeast, tick_of}
use Rattle.release_calendar.proofs.Keys.{is_least}
use Rattle.release_calendar.proofs.heads.Heads.least.Goals as goal

pub returns : goal.returns
returns c =
    subst (λ (ticks : List ℕ). IsLeast ticks c.self.inside.tick) c.self.view_is
    (subst (λ (t : ℕ). IsLeast (map tick_of c.self.inside.keys.items) t) (sym c.self.invariant.2) (is_least c.self.inside.keys.items c.self.inside.leasts.items c.self.inside.least c.self.invariant.0 c.self.invariant.1))
