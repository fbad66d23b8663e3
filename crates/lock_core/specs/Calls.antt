-- What a call of a core does to each history that the core stands for.
use Rattle.std.specs.Prelude.{◌≡◌, List, [], ◌∷◌, ◌++◌, Option, None, Some}
use Rattle.step_journal.specs.declared.entry.Entry.{Entry}
use Rattle.txn_set.specs.Set.{Set}
use Rattle.step_journal.specs.Step.{Event, step}
use Rattle.step_journal.specs.History.{state_of}
use Rattle.board.specs.declared.replies.IdleReply.{IdleReply}
use Rattle.board.specs.declared.replies.IdleReply.TheVariants as idle
use Rattle.board.specs.Histories.{noted}
use Rattle.lock_core.specs.Seen.{CoreSeen, set_of, kept_by}
use Rattle.lock_core.specs.Stands.{Stands}

-- the entry is that of the step for this event, and the state after it is the step's
abbrev pub IsEvent : Set → List Entry → Event → Option Entry → Type 0
IsEvent set history event None = Unit {0}
IsEvent set history event (Some entry) =
    step set (state_of set history) event ≡ Some (entry, state_of set (history ++ entry ∷ []))

-- Of a board, by what it stands for, its set and the entries that it keeps: the history has one more entry, that of the
-- step for this event, or none; it is kept, and the board stands for the history with it.
pub record IsCallOf {B : Type 0} (stands_for : B → List Entry → Type 0) (set_of : B → Set) (kept_by : B → List Entry) (old new : B) (history : List Entry) (event : Event) (entry : Option Entry) : Type 0 where
  pub stands : stands_for new (noted history entry)
  pub steps : IsEvent (set_of old) history event entry
  pub kept : kept_by new ≡ noted (kept_by old) entry

abbrev pub IsCall : CoreSeen → CoreSeen → List Entry → Event → Option Entry → Type 0
IsCall old new history event entry = IsCallOf Stands set_of kept_by old new history event entry

abbrev pub IsIdleRefusal : IdleReply → Type 0
IsIdleRefusal (idle.NotIdle running) = Unit {0}
IsIdleRefusal idle.Nothing = Unit {0}
IsIdleRefusal (idle.Full room) = Unit {0}
IsIdleRefusal (idle.Advanced to) = ⊥
