-- The judgement of a scenario.
use Rattle.std.specs.Prelude.{ℕ, ◌^◌, option_map, Result, Ok}
use Rattle.rt_base.specs.declared.ids.TxId.{TxId}
use Rattle.rt_base.specs.declared.release.PlanRefused.{PlanRefused}
use Rattle.step_script.specs.Shown.{Shown}
use Rattle.step_script.specs.Releases.{total_jobs, bad_release, room_of, eager_end}
use Rattle.step_script.specs.Bodies.{bad_script, long_script}
use Rattle.scenario_reader.specs.declared.error.ScenarioError.{ScenarioError}
use Rattle.scenario_reader.specs.declared.error.ScenarioError.TheVariants.{BadScript, TooManySteps, TooManyJobs, BadRelease, RoomTooLarge, EagerTooFar}
use Rattle.scenario_reader.specs.Refusals.{◌>>=◌, pass, above}

abbrev pub tx_id : ℕ → TxId
tx_id n = record { 0 = n }

abbrev pub script_error : ℕ × ℕ → ScenarioError
script_error bad = BadScript (tx_id bad.0) bad.1

abbrev pub long_error : ℕ → ScenarioError
long_error tx = TooManySteps (tx_id tx)

abbrev pub release_error : ℕ × ℕ × PlanRefused → ScenarioError
release_error bad = BadRelease (tx_id bad.0) bad.1 bad.2

-- its scripts
unfoldable pub judged_scripts : Shown → Result (Unit {0}) ScenarioError
judged_scripts s = do
  good ← pass (option_map script_error (bad_script s))
  pass (option_map long_error (long_script s))

-- its jobs and releases; what it gives is the room
unfoldable pub judged_jobs : Shown → Result ℕ ScenarioError
judged_jobs s = do
  few ← pass (above 65536 TooManyJobs (total_jobs s.releases))
  planned ← pass (option_map release_error (bad_release s))
  small ← pass (above (2 ^ 20) RoomTooLarge (room_of s))
  near ← pass (above (2 ^ 40) EagerTooFar (eager_end s))
  Ok (room_of s)

-- all of it, in this order; what it gives is the room
unfoldable pub judged : Shown → Result ℕ ScenarioError
judged s = do
  scripts ← judged_scripts s
  judged_jobs s
