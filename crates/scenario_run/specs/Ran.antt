-- What a run over a log leaves.
use Rattle.std.specs.Prelude.{◌≡◌, ℕ, List, ◌++◌, Option, Some}
use Rattle.io_edge.specs.Causes.{Rose}
use Rattle.rt_base.specs.declared.name.Names.{Names}
use Rattle.step_journal.specs.declared.entry.Entry.{Entry}
use Rattle.law_histories.specs.Sim.{Workload, IsSim}
use Rattle.durable_disk.specs.Standing.{RecordsSeen}
use Rattle.scenario_run.specs.declared.standing.JournalStanding.{JournalStanding}
use Rattle.scenario_run.specs.Compared.{Begins, IsOtherRecord}
use Rattle.scenario_run.specs.Outs.{IsGoing, LeftAt, LostAt, TakenAt}
use Rattle.scenario_run.specs.declared.over.Halt.{Halt}
use Rattle.scenario_run.specs.declared.over.Halt.TheVariants.{Other, Fault}
use Rattle.scenario_run.specs.Found.{Holds}

-- a whole run, for which the board stands, and which the out has
pub record IsGot {D : Type 0} (w : Workload) (stands : List Entry → Type 0) (seen : D → Option (List ℕ)) (may_leave : D → List ℕ → Type 0) (moment : D → ℕ) (left_since : D → ℕ → List ℕ → Type 0)
    (names : Names) (begun : D) (log : RecordsSeen D) (there kept : List Entry) : Type 0 where
  pub sim : IsSim w kept
  pub stood : stands kept
  pub going : IsGoing seen may_leave moment left_since names w.set (Some begun) log there kept

-- a run of which the out got the first entries, and lost the next ones, and what is left of the disk
pub record IsHalted {D : Type 0} (w : Workload) (seen : D → Option (List ℕ)) (may_leave : D → List ℕ → Type 0) (moment : D → ℕ) (left_since : D → ℕ → List ℕ → Type 0) (names : Names)
    (begun : D) (log : RecordsSeen D) (standing : JournalStanding) (there kept : List Entry) : Type 0 where
  pub history : List Entry
  pub sim : IsSim w history
  pub piece : List Entry
  pub rest : List Entry
  pub parts : history ≡ kept ++ piece ++ rest
  pub lost : LostAt standing there kept piece
  pub left : LeftAt seen moment left_since names w.set (Some begun) log.disk standing there kept piece
  pub going : TakenAt standing (IsGoing seen may_leave moment left_since names w.set (Some begun) log there kept)

-- a whole run, which begins with what the disk had, and which the disk holds
pub record IsKept (w : Workload) (stands : List Entry → Type 0) (names : Names) (seen : Option (List ℕ)) (may_leave : List ℕ → Type 0)
    (there history : List Entry) : Type 0 where
  pub sim : IsSim w history
  pub stood : stands history
  pub begins : Begins there history
  pub holds : Holds names w.set seen may_leave history

-- a record of the disk is not the run's
pub record HasOther (w : Workload) (there : List Entry) (number : ℕ) : Type 0 where
  pub history : List Entry
  pub sim : IsSim w history
  pub other : IsOtherRecord there history number

-- why a run over a log was not kept: a record is not the run's, or the disk counted a fault
abbrev pub HaltedBy : Workload → List Entry → ℕ → ℕ → Halt → Type 0
HaltedBy w there before now (Other number) = HasOther w there number
HaltedBy w there before now Fault = Rose before now
