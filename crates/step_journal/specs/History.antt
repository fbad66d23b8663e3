-- Legal histories: lists of entries that the step gives, one after another, from the opening state.
use Rattle.std.specs.Prelude.{◌≡◌, List, [], ◌∷◌, Option, None, Some}
use Rattle.std.specs.Option.{option_map}
use Rattle.step_journal.specs.declared.entry.Entry.{Entry}
use Rattle.step_journal.specs.declared.entry.Entry.TheVariants.{Planned, Step, Blocked, Idle}
use Rattle.txn_set.specs.Set.{Set}
use Rattle.step_journal.specs.State.{State, opening}
use Rattle.step_journal.specs.Step.{Event, plan, ask, idle, step}

-- the event that an entry records
abbrev pub event_of : Entry → Event
event_of (Planned tx tick) = plan tx.0 tick
event_of (Step job op outcome over tick) = ask job op
event_of (Blocked job op by ceiling tick) = ask job op
event_of (Idle from to) = idle

-- the state that a step gives; where the event is not legal the state stays
abbrev pub state_given : State → Option (Entry × State) → State
state_given s None = s
state_given s (Some p) = p.1

abbrev pub entry_given : Option (Entry × State) → Option Entry
entry_given r = option_map (λ p. p.0) r

abbrev pub state_after : Set → State → Entry → State
state_after set s entry = state_given s (step set s (event_of entry))

-- state(H): the state after a list of entries
abbrev pub states_after : Set → State → List Entry → State
states_after set s [] = s
states_after set s (e ∷ es) = states_after set (state_after set s e) es

abbrev pub state_of : Set → List Entry → State
state_of set entries = states_after set (opening set) entries

-- the entry is exactly what the step gives for its event
abbrev pub IsLegalEntry : Set → State → Entry → Type 0
IsLegalEntry set s entry = entry_given (step set s (event_of entry)) ≡ Some entry

abbrev pub IsLegalFrom : Set → State → List Entry → Type 0
IsLegalFrom set s [] = Unit {0}
IsLegalFrom set s (e ∷ es) = IsLegalEntry set s e × IsLegalFrom set (state_after set s e) es

abbrev pub IsLegal : Set → List Entry → Type 0
IsLegal set entries = IsLegalFrom set (opening set) entries
