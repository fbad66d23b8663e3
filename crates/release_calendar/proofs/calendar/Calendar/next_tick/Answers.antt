use Rattle.std.proofs.Common.{◌≡◌, ℕ, List, [], Option, None, Some, sym, subst}
use Rattle.std.specs.Option.{MatchOption}
use Rattle.std.specs.List.Sorted.{IsPermutation}
use Rattle.rt_base.specs.declared.release.Release.{Release}
use Rattle.release_calendar.specs.declared.planned.Planned.{Planned}
use Rattle.release_calendar.specs.Agenda.{Agenda, Holds, least_tick}
use Rattle.release_calendar.specs.Queues.{IsFirstTick, queued, releases}
use Rattle.release_calendar.proofs.Releases.{first_tick, none_planned}
use Rattle.release_calendar.proofs.calendar.Calendar.next_tick.Goals as goal

by_cases : (queues : List (List Planned)) (planned : List Release) (first : Option ℕ) → MatchOption first (queued queues ≡ []) (λ tick. IsFirstTick tick queues) → IsPermutation planned (releases queues) → first ≡ least_tick planned
by_cases queues planned None none held = sym (none_planned queues planned none held)
by_cases queues planned (Some tick) is held = sym (first_tick queues tick planned is held)

pub returns : goal.returns
returns c planned held = by_cases c.self.inside.planned.queues planned c.first.result c.first.ensures (subst (λ (a : Agenda). Holds a planned) (sym c.self.view_is) held)
