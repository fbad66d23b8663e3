-- When a warning holds of a scenario.
use Rattle.std.specs.Prelude.{◌≡◌, ◌<◌, true, false, length, Some}
use Rattle.txn_set.specs.Set.{txn_of}
use Rattle.step_script.specs.Releases.{jobs_of, releases_of}
use Rattle.step_script.specs.Bodies.{steps_of}
use Rattle.step_script.specs.Shown.{Shown, set_of}
use Rattle.scenario_check.specs.declared.kinds.Warning.{Warning}
use Rattle.scenario_check.specs.declared.kinds.Warning.TheVariants.{NoScript, NoEnd, LongScript, UnreadLast, NotPeriodic, NeverReleased, Unread, Unused}
use Rattle.scenario_check.specs.Scripts.{is_empty, runs_on, unread_at, is_updating, is_periodic}
use Rattle.scenario_check.specs.Warnings.{ops_at, is_sensor, is_unread, is_unwritten}

abbrev pub Holds : Shown → Warning → Type 0
Holds s (NoScript tx) = (tx.0 < length s.txns) × (is_empty (ops_at s.programs tx.0) ≡ true)
Holds s (NoEnd tx) = (tx.0 < length s.txns) × (runs_on (ops_at s.programs tx.0) ≡ true)
Holds s (LongScript tx) =
    (tx.0 < length s.txns) × ((txn_of (set_of s) tx.0).steps < steps_of (ops_at s.programs tx.0))
Holds s (UnreadLast tx op item) = (tx.0 < length s.txns) × (unread_at (ops_at s.programs tx.0) op ≡ Some item)
Holds s (NotPeriodic tx) =
    (tx.0 < length s.txns) × (is_updating s.items (txn_of (set_of s) tx.0) ≡ true)
    × (is_periodic (txn_of (set_of s) tx.0) (releases_of s.releases tx.0) ≡ false)
Holds s (NeverReleased tx) = (tx.0 < length s.txns) × (jobs_of (releases_of s.releases tx.0) ≡ 0)
Holds s (Unread item) =
    (item.0 < length s.items) × (is_sensor s.items item.0 ≡ true) × (is_unread s.txns item.0 ≡ true)
Holds s (Unused item) =
    (item.0 < length s.items) × (is_unread s.txns item.0 ≡ true) × (is_unwritten s.txns item.0 ≡ true)
