-- The run of a workload: the one history that its releases and its bodies leave.
use Rattle.std.specs.Prelude.{◌≡◌, ℕ, ◌+◌, List, [], ◌∷◌, ◌++◌, map, Option, None, Some}
use Rattle.rt_base.specs.declared.ids.JobId.{JobId}
use Rattle.rt_base.specs.declared.operation.Op.{Op}
use Rattle.rt_base.specs.declared.operation.Outcome.{Outcome}
use Rattle.rt_base.specs.declared.release.Release.{Release}
use Rattle.txn_set.specs.Set.{Set}
use Rattle.step_journal.specs.declared.entry.Entry.{Entry}
use Rattle.step_journal.specs.declared.entry.Entry.TheVariants.{Planned, Step, Blocked, Idle}
use Rattle.step_journal.specs.State.{State, Row, pending}
use Rattle.step_journal.specs.Running.{running}
use Rattle.step_journal.specs.Step.{Event, ask, idle}
use Rattle.step_journal.specs.History.{IsLegal, state_of, event_of}
use Rattle.step_journal.specs.Serial.{outcomes_of}

-- a body: from a job's serial and the outcomes that it was told, its next operation
abbrev pub Body : Type 0
Body = ℕ → List Outcome → Op

-- a set, the body of each transaction, and its fixed releases in rising order
pub record Workload : Type 0 where
  pub set : Set
  pub bodies : ℕ → Body
  pub releases : List (List ℕ)

-- the plans of all releases, by transaction and then by index
abbrev pub plans_from : ℕ → List (List ℕ) → List Entry
plans_from tx [] = []
plans_from tx (ticks ∷ rest) = map (Planned (record { 0 = tx })) ticks ++ plans_from (tx + 1) rest

abbrev pub plans : Workload → List Entry
plans w = plans_from 0 w.releases

-- the operation that a job asks for after a history: its body's, by its serial and the outcomes of its steps
abbrev pub op_asked : Workload → List Entry → JobId → Op
op_asked w before job = w.bodies job.tx.0 job.serial (outcomes_of before job)

-- Script run: the operation of each Step and Blocked entry is the body's
abbrev pub IsAsked : Workload → List Entry → Entry → Type 0
IsAsked w before (Planned tx tick) = Unit {0}
IsAsked w before (Step job op outcome over tick) = op ≡ op_asked w before job
IsAsked w before (Blocked job op by ceiling tick) = op ≡ op_asked w before job
IsAsked w before (Idle from to) = Unit {0}

abbrev pub IsScriptRun : Workload → List Entry → Type 0
IsScriptRun w entries = (before after : List Entry) (e : Entry) → entries ≡ before ++ e ∷ after → IsAsked w before e

-- the event that the state after a history fixes: the running job asks for its body's operation; with nothing pending the
-- time goes on to the next release; with nothing planned either there is none
abbrev pub event_in : List Release → Option Event
event_in [] = None
event_in (r ∷ rs) = Some idle

abbrev pub event_for : Workload → List Entry → State → Option Row → Option Event
event_for w before s (Some row) = Some (ask row.job (op_asked w before row.job))
event_for w before s None = event_in s.planned

abbrev pub next_event : Workload → List Entry → Option Event
next_event w before = event_for w before (state_of w.set before) (running w.set (state_of w.set before).rows)

-- the entries after a history are those of the events that the state fixes, one after another
abbrev pub IsFixed : Workload → List Entry → List Entry → Type 0
IsFixed w before [] = Unit {0}
IsFixed w before (e ∷ rest) = (next_event w before ≡ Some (event_of e)) × IsFixed w (before ++ e ∷ []) rest

-- Sim: a legal history and a script run that begins with the plans of all releases, whose every other entry is that of the
-- event that the state fixes, and that leaves nothing pending and nothing planned
pub record IsSim (w : Workload) (entries : List Entry) : Type 0 where
  pub legal : IsLegal w.set entries
  pub script_run : IsScriptRun w entries
  pub rest : List Entry
  pub begins : entries ≡ plans w ++ rest
  pub fixed : IsFixed w (plans w) rest
  pub none_pending : pending (state_of w.set entries).rows ≡ []
  pub none_planned : (state_of w.set entries).planned ≡ []

-- there is one such history at most
abbrev pub OneSim : Type 0
OneSim = (w : Workload) (h k : List Entry) → IsSim w h → IsSim w k → h ≡ k
