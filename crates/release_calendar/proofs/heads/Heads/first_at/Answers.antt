use Rattle.std.proofs.Common.{◌≡◌, ℕ, ◌%◌, ◌^◌, ◌<◌, List, sym, ◌∙◌, subst}
use Rattle.release_calendar.specs.Heads.{IsFirstLeast, no_tick, tick_at}
use Rattle.release_calendar.proofs.Keys.{is_first}
use Rattle.release_calendar.proofs.heads.Heads.first_at.Goals as goal

pub returns-then-tick-lt-NO_TICK : goal.returns-then-tick-lt-NO_TICK
returns-then-tick-lt-NO_TICK c =
    subst (λ (ticks : List ℕ). IsFirstLeast ticks (c.self.inside.least % 2 ^ 22) × (tick_at ticks (c.self.inside.least % 2 ^ 22) ≡ c.args.tick) × (c.args.tick < no_tick)) c.self.view_is
    (is_first c.self.inside.keys.items c.self.inside.leasts.items c.self.inside.least c.args.tick c.self.invariant.0 c.self.invariant.1 (sym c.self.invariant.2 ∙ c.if-self-tick.true) c.if-tick-lt-NO_TICK.true)
