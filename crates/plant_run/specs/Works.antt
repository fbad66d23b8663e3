-- What workers leave of a board on which all releases were planned.
use Rattle.std.specs.Prelude.{ℕ, List, ◌++◌}
use Rattle.step_journal.specs.declared.entry.Entry.{Entry}
use Rattle.step_journal.specs.History.{IsLegal}
use Rattle.txn_set.specs.Set.{Set}
use Rattle.board.specs.Histories.{IsHistory}
use Rattle.law_histories.specs.Sim.{Workload, plans}
use Rattle.sim_run.specs.Handed.{IsHanded, IsCut, CanTake}
use Rattle.law_runs.specs.Histories.{IsRunSoFar, IsRunOf}

-- A run of the workload, for which the board stands. Of what the board had kept before, and of what came after the plans,
-- the out got all but what the board keeps.
pub record HasWorked (w : Workload) (eager_jobs : ℕ → ℕ) (stands got got' : List Entry → Type 0) (before kept : List Entry) : Type 0 where
  pub rest : List Entry
  pub run : IsRunOf w eager_jobs (plans w ++ rest)
  pub stood : stands (plans w ++ rest)
  pub handed : IsHanded got got' (before ++ rest) kept

-- A run of the workload so far, of which the out got the first entries, and lost the piece that came next.
pub record WasCut (w : Workload) (eager_jobs : ℕ → ℕ) (got got' lost' : List Entry → Type 0) (before : List Entry) : Type 0 where
  pub rest : List Entry
  pub so_far : IsRunSoFar w eager_jobs (plans w ++ rest)
  pub cut : IsCut got got' lost' (before ++ rest)

-- of each legal history that begins with the plans the out can take what the board had kept and what comes after the plans
abbrev pub CanGoOn : Workload → (got good : List Entry → Type 0) → List Entry → Type 0
CanGoOn w got good before = (rest : List Entry) → IsLegal w.set (plans w ++ rest) → CanTake got good (before ++ rest)

-- what a board stands for is a legal history of its set, of which it keeps the last part
abbrev pub HistoriesAre : {B : Type 0} → (B → List Entry → Type 0) → (B → Set) → (B → ℕ) → (B → ℕ) → (B → List Entry) → Type 0
HistoriesAre {B} stands set room first kept = (b : B) (history : List Entry) → stands b history → IsHistory (set b) (room b) (first b) (kept b) history
