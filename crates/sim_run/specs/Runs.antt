-- What a run leaves when it was handed on whole, and when the out stopped; and that there is a run.
use Rattle.std.specs.Prelude.{◌≡◌, ℕ, List, ◌++◌, take, drop}
use Rattle.txn_set.specs.Set.{IsCompiled}
use Rattle.step_journal.specs.declared.entry.Entry.{Entry}
use Rattle.step_journal.specs.History.{IsLegal}
use Rattle.law_histories.specs.Sim.{Workload, IsSim}
use Rattle.sim_run.specs.Workloads.{AreAccepted, IsObedient}
use Rattle.sim_run.specs.Calls.{IsUnderWay}

-- a run of the workload, for which the board stands, and which the out got whole
pub record IsWhole (w : Workload) (stands got got' : List Entry → Type 0) : Type 0 where
  pub history : List Entry
  pub sim : IsSim w history
  pub stood : stands history
  pub grown : (had : List Entry) → got had → got' (had ++ history)

-- a run of the workload, of which the out got the first entries, so many, and lost the next ones, so many
pub record IsStopped (w : Workload) (got got' lost' : List Entry → Type 0) : Type 0 where
  pub history : List Entry
  pub sim : IsSim w history
  pub passed : ℕ
  pub missed : ℕ
  pub grown : (had : List Entry) → got had → got' (had ++ take passed history)
  pub is_lost : lost' (take missed (drop passed history))

-- a run of the workload that begins with these entries
pub record HasRun (w : Workload) (front : List Entry) : Type 0 where
  pub history : List Entry
  pub sim : IsSim w history
  pub rest : List Entry
  pub begins : history ≡ front ++ rest

-- each workload that is accepted and obedient has a run
abbrev pub RunsExist : Type 0
RunsExist =
    (w : Workload) → IsCompiled w.set → AreAccepted w.set w.releases → IsObedient w
    → (history : List Entry) × IsSim w history

-- each legal history that is under way is the beginning of a run
abbrev pub HistoriesGoOn : Type 0
HistoriesGoOn =
    (w : Workload) (history : List Entry) → IsCompiled w.set → IsObedient w → IsLegal w.set history → IsUnderWay w history
    → HasRun w history
