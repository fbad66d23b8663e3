-- The rule of the calendar, over plain numbers: why a job is not planned for a tick.
use Rattle.std.specs.Prelude.{ℕ, ◌-◌, ◌^◌, nat_lt, nat_le, if◌then◌else◌, Option, None, Some}
use Rattle.rt_base.specs.declared.release.PlanRefused.{PlanRefused}
use Rattle.rt_base.specs.declared.release.PlanRefused.TheVariants as refused

-- the latest tick for which a job may be planned
abbrev pub last_tick : ℕ
last_tick = 2 ^ 40

-- how many jobs of a transaction may be planned in all
abbrev pub most_serials : ℕ
most_serials = 2 ^ 32 - 1

-- The refusals in their order. `earliest` is a period after the transaction's last planned tick, or 0 where nothing was
-- planned for it; `waiting` releases are planned and did not take place yet, of at most `places`; `number` jobs of the
-- transaction were planned.
abbrev pub calendar_refusal : (tick now earliest waiting places number : ℕ) → Option PlanRefused
calendar_refusal tick now earliest waiting places number =
    if nat_lt tick now then Some (refused.Past now)
    else if nat_lt tick earliest then Some (refused.TooSoon earliest)
    else if nat_lt last_tick tick then Some (refused.TooFar last_tick)
    else if nat_le places waiting then Some (refused.CalendarFull places)
    else if nat_le most_serials number then Some (refused.NoSerial most_serials)
    else None
