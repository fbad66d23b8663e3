-- The histories of a workload whose eager transactions plan jobs themselves: a transaction that is eager plans so many,
-- one that is not plans none.
use Rattle.std.specs.Prelude.{◌≡◌, ℕ, ◌+◌, ◌<◌, List, [], ◌∷◌, ◌++◌, length}
use Rattle.rt_base.specs.declared.ids.TxId.{TxId}
use Rattle.step_journal.specs.declared.entry.Entry.{Entry}
use Rattle.step_journal.specs.declared.entry.Entry.TheVariants.{Planned, Step, Blocked, Idle}
use Rattle.step_journal.specs.State.{pending}
use Rattle.step_journal.specs.History.{IsLegal, state_of}
use Rattle.board.specs.Answers.{next_tick_for}
use Rattle.board.specs.Histories.{ended_of}
use Rattle.law_histories.specs.Counting.{plan_count}
use Rattle.law_histories.specs.Sim.{Workload, IsScriptRun, plans}
use Rattle.sim_run.specs.Workloads.{ticks_of}

-- A plan that comes after the plans of all releases and these entries. The transaction had planned fewer jobs itself than
-- it is to, and all its jobs had ended. The tick is that of plan_next: the present one, or a period after the last planned
-- one if that is later.
pub record IsOwnPlan (w : Workload) (eager_jobs : ℕ → ℕ) (more : List Entry) (tx : TxId) (tick : ℕ) : Type 0 where
  pub left : plan_count more tx.0 < eager_jobs tx.0
  pub ended : ended_of w.set (plans w ++ more) tx.0 ≡ plan_count (plans w ++ more) tx.0
  pub tick_is : tick ≡ next_tick_for w.set (state_of w.set (plans w ++ more)) tx.0

abbrev pub IsLater : Workload → (ℕ → ℕ) → List Entry → Entry → Type 0
IsLater w eager_jobs more (Planned tx tick) = IsOwnPlan w eager_jobs more tx tick
IsLater w eager_jobs more (Step job op outcome over tick) = Unit {0}
IsLater w eager_jobs more (Blocked job op by ceiling tick) = Unit {0}
IsLater w eager_jobs more (Idle from to) = Unit {0}

-- A legal history and a script run that begins with the plans of all releases, by transaction and then by index. Each
-- further plan is of an eager transaction that has jobs left and whose jobs had all ended.
pub record IsRunSoFar (w : Workload) (eager_jobs : ℕ → ℕ) (history : List Entry) : Type 0 where
  pub legal : IsLegal w.set history
  pub script_run : IsScriptRun w history
  pub rest : List Entry
  pub begins : history ≡ plans w ++ rest
  pub later : (more after : List Entry) (e : Entry) → rest ≡ more ++ e ∷ after → IsLater w eager_jobs more e

-- Run history: such a history in which each transaction has all its jobs, and that leaves nothing pending and nothing
-- planned
pub record IsRunOf (w : Workload) (eager_jobs : ℕ → ℕ) (history : List Entry) : Type 0 where
  pub so_far : IsRunSoFar w eager_jobs history
  pub jobs : (tx : ℕ) → tx < length w.set.txns → plan_count history tx ≡ length (ticks_of w.releases tx) + eager_jobs tx
  pub none_pending : pending (state_of w.set history).rows ≡ []
  pub none_planned : (state_of w.set history).planned ≡ []
