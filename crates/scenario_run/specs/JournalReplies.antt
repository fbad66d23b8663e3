-- The status and the text of the answer of a run over a journal.
use Rattle.std.specs.Prelude.{◌≡◌, ℕ, ◌<◌, List, ◌++◌, length, codes, decimal, Option, None, Some, IfSome, false, ⊤}
use Rattle.std.specs.List.{position}
use Rattle.rt_base.specs.declared.name.Names.{Names}
use Rattle.step_journal.specs.declared.entry.Entry.{Entry}
use Rattle.law_histories.specs.Sim.{IsSim}
use Rattle.txn_compiler.specs.Refusal.{compile_refusal}
use Rattle.set_admission.specs.Admission.{refusal}
use Rattle.step_script.specs.Shown.{Shown, set_of}
use Rattle.step_script.specs.Releases.{is_eager}
use Rattle.law_runs.specs.Runs.{workload_of}
use Rattle.refusal_lines.specs.Causes.{txn}
use Rattle.io_edge.specs.declared.status.Status.{Status}
use Rattle.io_edge.specs.declared.status.Status.TheVariants as statuses
use Rattle.command_replies.specs.Replies.{Reply, Refused, Compiling, Admitting}
use Rattle.scenario_run.specs.Runs.{IsRunText}
use Rattle.scenario_run.specs.Found.{TakesUp, IsBadFor, Holds}

-- the first eager transaction, if there is one
abbrev pub first_eager : Shown → Option ℕ
first_eager s = position is_eager s.releases

abbrev pub eager_cause : Names → ℕ → List ℕ
eager_cause names tx = codes "EagerJournal" ++ txn names (record { 0 = tx })

-- no transaction is eager, or the line of the first
abbrev pub Unhurried : Reply → Names → Option ℕ → Reply
Unhurried goes names None status text = goes status text
Unhurried goes names (Some tx) status text = Refused (eager_cause names tx) status text

-- the line of a bad record
abbrev pub bad_line : ℕ → List ℕ
bad_line number = codes "bad journal record " ++ decimal number ++ codes "\n"

-- the run of the scenario began with what the disk had
pub record TookUp (s : Shown) (file : List ℕ) : Type 0 where
  pub history : List Entry
  pub sim : IsSim (workload_of s) history
  pub took : TakesUp s.names (set_of s) s.room history file

-- this record is the first that is not the run's, which has fewer entries than there is room for
pub record HasBad (s : Shown) (file : List ℕ) (number : ℕ) : Type 0 where
  pub history : List Entry
  pub sim : IsSim (workload_of s) history
  pub fewer : length history < s.room
  pub bad : IsBadFor s.names (set_of s) s.room history file number

-- The report of the run, which began with what the disk had, or the number of the first record that is not the run's. Of
-- a disk that does not tell what it had nothing is said.
abbrev pub Journaled : Shown → Option (List ℕ) → Reply
Journaled s told statuses.Ok text = IsRunText false s text × IfSome told (TookUp s)
Journaled s told statuses.BadJournal text = (number : ℕ) × (text ≡ bad_line number) × IfSome told (λ file. HasBad s file number)
Journaled s told _ text = ⊥

-- the run of a scenario over a journal: its set is compiled and admitted, and no transaction is eager
abbrev pub JournalReply : Shown → Option (List ℕ) → Reply
JournalReply s told =
    Compiling (Admitting (Unhurried (Journaled s told) s.names (first_eager s)) s.names (refusal (set_of s))) s.names
    (compile_refusal (set_of s))

-- a status before which nothing was done to the disk
abbrev pub LeavesDisk : Status → Type 0
LeavesDisk statuses.Ok = ⊥
LeavesDisk statuses.WriteFault = ⊥
LeavesDisk statuses.OutOfMemory = ⊥
LeavesDisk statuses.DiskFault = ⊥
LeavesDisk statuses.BadJournal = ⊥
LeavesDisk status = ⊤

-- a disk that tells holds the run of the scenario, and so does what a crash leaves of it
pub record HoldsRun (s : Shown) (seen : Option (List ℕ)) (may_leave : List ℕ → Type 0) : Type 0 where
  pub history : List Entry
  pub sim : IsSim (workload_of s) history
  pub holds : Holds s.names (set_of s) seen may_leave history
