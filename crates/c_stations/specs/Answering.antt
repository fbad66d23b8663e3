-- What the answers to calls do.
use Rattle.std.specs.Prelude.{◌≡◌, ◌+◌, ◌<◌, ◌⊎◌, List, [], length, reverse, Option, None, slice_get, if◌then◌else◌}
use Rattle.c_stations.specs.declared.call.Call.{Call}
use Rattle.c_stations.specs.Calls.{held}
use Rattle.txn_set.specs.Set.{Set}
use Rattle.step_journal.specs.declared.entry.Entry.{Entry}
use Rattle.c_stations.specs.Kept.{Station, Holds}

-- the call that is to be made next
abbrev pub next_of : Station → Option Call
next_of s = if s.stopped then None else slice_get s.queue.calls s.made

-- all calls were made: the file is what they make of it
abbrev pub settled : Station → Station
settled s = record s { queue = record { base = held s.queue.base (reverse s.queue.calls); calls = [] }; made = 0; pending = 0 }

-- nothing happened where no call was next; else the one behind it is next, or all were made
abbrev pub GoesOn : Station → Station → Type 0
GoesOn s t =
    ((next_of s ≡ None) × (t ≡ s))
    ⊎ (((s.made + 1 < length s.queue.calls) × (t ≡ record s { made = s.made + 1 }))
    ⊎ ((s.made + 1 ≡ length s.queue.calls) × (t ≡ settled s)))

-- The call that was next was made. What the log holds when all are made stays.
pub record MadeOne (s t : Station) : Type 0 where
  pub goes_on : GoesOn s t
  pub holds : (set : Set) (entries : List Entry) → Holds s.names set s.queue s.count entries → Holds t.names set t.queue t.count entries
