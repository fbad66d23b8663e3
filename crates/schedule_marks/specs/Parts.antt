-- The part of a schedule that is looked at.
use Rattle.std.specs.Prelude.{ℕ, Bool, nat_lt, nat_le, ◌&&◌}
use Rattle.schedule_marks.specs.declared.part.Part.{Part}

abbrev pub has_tick : Part → ℕ → Bool
has_tick part tick = nat_le part.from tick && nat_lt tick part.to

-- its ends are instants of it
abbrev pub has_instant : Part → ℕ → Bool
has_instant part tick = nat_le part.from tick && nat_le tick part.to

-- a span of ticks has one of the part's
abbrev pub meets : Part → ℕ → ℕ → Bool
meets part from to = nat_lt from part.to && nat_lt part.from to
