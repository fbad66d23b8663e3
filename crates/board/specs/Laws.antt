-- An answer that appends an entry is exactly a step of the definition, and where there is room each step is answered so.
use Rattle.std.specs.Prelude.{◌≡◌, ℕ, ◌<◌, List, length, Some}
use Rattle.rt_base.specs.declared.ids.TxId.{TxId}
use Rattle.rt_base.specs.declared.ids.JobId.{JobId}
use Rattle.rt_base.specs.declared.operation.Op.{Op}
use Rattle.step_journal.specs.declared.entry.Entry.{Entry}
use Rattle.txn_set.specs.Set.{Set, IsCompiled}
use Rattle.step_journal.specs.State.{State}
use Rattle.step_journal.specs.Step.{plan, ask, idle, step}
use Rattle.step_journal.specs.History.{IsLegal, state_of, entry_given}
use Rattle.board.specs.Answers.{plan_reply, step_reply, idle_reply}
use Rattle.board.specs.Histories.{plan_entry, step_entry, idle_entry}

-- the entry of the answer is that of the step, where there is room
abbrev pub PlansAreSteps : Type 0
PlansAreSteps =
    (set : Set) (s : State) (kept room : ℕ) (tx : TxId) (tick : ℕ) → kept < room → tx.0 < length set.txns
    → plan_entry tx tick (plan_reply set s kept room tx.0 tick) ≡ entry_given (step set s (plan tx.0 tick))

-- after a legal history there is a running job where one is pending
abbrev pub StepsAreSteps : Type 0
StepsAreSteps =
    (set : Set) (history : List Entry) (kept room : ℕ) (job : JobId) (op : Op)
    → IsCompiled set → IsLegal set history → kept < room
    → step_entry (state_of set history).now job op (step_reply set (state_of set history) kept room job op)
    ≡ entry_given (step set (state_of set history) (ask job op))

abbrev pub IdlesAreSteps : Type 0
IdlesAreSteps =
    (set : Set) (history : List Entry) (kept room : ℕ) → IsCompiled set → IsLegal set history → kept < room
    → idle_entry (state_of set history).now (idle_reply set (state_of set history) kept room)
    ≡ entry_given (step set (state_of set history) idle)

-- the entry of an answer is always that of the step, with room or without: what is appended is legal
abbrev pub AppendsAreSteps : Type 0
AppendsAreSteps =
    (set : Set) (history : List Entry) (kept room : ℕ) (tx : TxId) (tick : ℕ) (job : JobId) (op : Op) (e : Entry)
    → IsCompiled set → IsLegal set history → tx.0 < length set.txns
    → (plan_entry tx tick (plan_reply set (state_of set history) kept room tx.0 tick) ≡ Some e
    → entry_given (step set (state_of set history) (plan tx.0 tick)) ≡ Some e)
    × (step_entry (state_of set history).now job op (step_reply set (state_of set history) kept room job op) ≡ Some e
    → entry_given (step set (state_of set history) (ask job op)) ≡ Some e)
    × (idle_entry (state_of set history).now (idle_reply set (state_of set history) kept room) ≡ Some e
    → entry_given (step set (state_of set history) idle) ≡ Some e)
