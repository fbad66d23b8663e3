-- Ticks that may not be planned.
use Rattle.std.specs.Prelude.{ℕ, ◌^◌, nat_lt, if◌then◌else◌, Option, Some, None}
use Rattle.rt_base.specs.declared.release.PlanRefused.{PlanRefused}
use Rattle.rt_base.specs.declared.release.PlanRefused.TheVariants.{TooSoon, TooFar}

-- why a tick may not be planned, where this one is the earliest that may
abbrev pub tick_refusal : ℕ → ℕ → Option PlanRefused
tick_refusal earliest tick =
    if nat_lt tick earliest
    then Some (TooSoon earliest)
    else (if nat_lt (2 ^ 40) tick then Some (TooFar (2 ^ 40)) else None)
