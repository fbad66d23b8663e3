-- What the log of a station stands for.
use Rattle.std.specs.Prelude.{ℕ, List, reverse, Bool, false, Some}
use Rattle.rt_base.specs.declared.name.Names.{Names}
use Rattle.txn_set.specs.Set.{Set}
use Rattle.step_journal.specs.declared.entry.Entry.{Entry}
use Rattle.durable_journal.specs.Log.{Stood}
use Rattle.c_stations.specs.Calls.{MayLeave, held}
use Rattle.c_stations.specs.Device.{Queued}

-- What a station is: the names of its set; the file and the calls that are to be made on it; how many of these were made; how
-- many records the log has when all are made, its header among them, and how many of these wait for the calls; for how many
-- entries there is room; the entries that were found; whether a call failed.
pub record Station : Type 0 where
  pub names : Names
  pub queue : Queued
  pub made : ℕ
  pub count : ℕ
  pub pending : ℕ
  pub room : ℕ
  pub found : List Entry
  pub stopped : Bool

-- When the calls are made the file is a log of these entries, of so many records, as `Log` says it.
abbrev pub Holds : Names → Set → Queued → ℕ → List Entry → Type 0
Holds names set queue count entries =
    Stood names set (Some (held queue.base (reverse queue.calls))) (MayLeave queue.base (reverse queue.calls)) count false entries
