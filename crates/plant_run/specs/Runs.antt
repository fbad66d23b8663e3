-- What a run leaves: when it was handed on whole, when the out stopped, and when it wanted memory.
use Rattle.std.specs.Prelude.{◌≡◌, ℕ, List, [], ◌++◌, take, drop, slice_index_or}
use Rattle.txn_set.specs.Set.{Set, IsCompiled}
use Rattle.step_journal.specs.declared.entry.Entry.{Entry}
use Rattle.law_histories.specs.Sim.{Workload, IsSim}
use Rattle.sim_run.specs.Boards.{IsFixed}
use Rattle.sim_run.specs.Workloads.{AreAccepted, IsObedient}
use Rattle.sim_run.specs.Runs.{IsWhole, IsStopped}
use Rattle.law_runs.specs.Histories.{IsRunSoFar, IsRunOf}
use Rattle.law_runs.specs.Plannable.{ArePlannable}

-- how many jobs a transaction plans itself
abbrev pub eager_jobs_at : List ℕ → ℕ → ℕ
eager_jobs_at eager_jobs tx = slice_index_or eager_jobs tx 0

-- the board is handed back with no entry left in it, and with the set and the room that it had
abbrev pub IsHandedBack : {B : Type 0} → (kept : B → List Entry) → (set : B → Set) → (room : B → ℕ) → B → B → Type 0
IsHandedBack kept set room was is = (kept is ≡ []) × IsFixed set room was is

-- a run of the workload, for which the board stands, and which the out got whole
pub record IsWholeRun (w : Workload) (eager_jobs : ℕ → ℕ) (stands got got' : List Entry → Type 0) : Type 0 where
  pub history : List Entry
  pub run : IsRunOf w eager_jobs history
  pub stood : stands history
  pub grown : (had : List Entry) → got had → got' (had ++ history)

-- a run of the workload so far, of which the out got the first entries, so many, and lost the next ones, so many
pub record IsStoppedRun (w : Workload) (eager_jobs : ℕ → ℕ) (got got' lost' : List Entry → Type 0) : Type 0 where
  pub history : List Entry
  pub so_far : IsRunSoFar w eager_jobs history
  pub passed : ℕ
  pub missed : ℕ
  pub grown : (had : List Entry) → got had → got' (had ++ take passed history)
  pub is_lost : lost' (take missed (drop passed history))

-- a run of the workload so far, of which the out got the first entries, so many, and lost none
pub record IsShortRun (w : Workload) (eager_jobs : ℕ → ℕ) (got got' lost' : List Entry → Type 0) : Type 0 where
  pub history : List Entry
  pub so_far : IsRunSoFar w eager_jobs history
  pub passed : ℕ
  pub grown : (had : List Entry) → got had → got' (had ++ take passed history)
  pub none_lost : lost' []

-- the one run of the workload, of which the out got the first entries, so many, and lost none
pub record IsCutShort (w : Workload) (got got' lost' : List Entry → Type 0) : Type 0 where
  pub history : List Entry
  pub sim : IsSim w history
  pub passed : ℕ
  pub grown : (had : List Entry) → got had → got' (had ++ take passed history)
  pub none_lost : lost' []

-- Where no transaction plans jobs itself, all that are to be planned are the accepted releases,
abbrev pub FixedArePlannable : Type 0
FixedArePlannable =
    (w : Workload) (eager_jobs : ℕ → ℕ) → IsCompiled w.set → AreAccepted w.set w.releases → ((tx : ℕ) → eager_jobs tx ≡ 0)
    → ArePlannable w eager_jobs

-- a whole run on a plant is the one run of the workload,
abbrev pub WholeIsSim : {B O : Type 0} → (B → List Entry → Type 0) → (O → List Entry → Type 0) → Type 0
WholeIsSim {B} {O} stands got =
    (w : Workload) (eager_jobs : ℕ → ℕ) (b : B) (o q : O) → ((tx : ℕ) → eager_jobs tx ≡ 0)
    → IsWholeRun w eager_jobs (stands b) (got o) (got q) → IsWhole w (stands b) (got o) (got q)

-- and what the out got and lost where it stopped, or where memory was wanted, is how that run begins
abbrev pub StoppedIsSim : {O : Type 0} → (got lost : O → List Entry → Type 0) → Type 0
StoppedIsSim {O} got lost =
    (w : Workload) (eager_jobs : ℕ → ℕ) (o q : O) → IsCompiled w.set → IsObedient w → ((tx : ℕ) → eager_jobs tx ≡ 0)
    → IsStoppedRun w eager_jobs (got o) (got q) (lost q) → IsStopped w (got o) (got q) (lost q)

abbrev pub ShortIsSim : {O : Type 0} → (got lost : O → List Entry → Type 0) → Type 0
ShortIsSim {O} got lost =
    (w : Workload) (eager_jobs : ℕ → ℕ) (o q : O) → IsCompiled w.set → IsObedient w → ((tx : ℕ) → eager_jobs tx ≡ 0)
    → IsShortRun w eager_jobs (got o) (got q) (lost q) → IsCutShort w (got o) (got q) (lost q)
