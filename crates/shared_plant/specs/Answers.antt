-- What the calls of a plant answer, and what a seat knows after them.
use Rattle.std.specs.Prelude.{◌≡◌, ◌⊎◌, ℕ, zero, suc, ◌+◌, ◌-◌, ◌≤◌, ◌++◌, ◌∷◌, [], List, Option, Some, None, length, min, take, drop}
use Rattle.rt_base.specs.declared.ids.JobId.{JobId}
use Rattle.rt_base.specs.declared.operation.Op.{Op}
use Rattle.step_journal.specs.declared.entry.Entry.{Entry}
use Rattle.step_journal.specs.History.{IsLegal}
use Rattle.txn_set.specs.Set.{Set}
use Rattle.board.specs.Histories.{noted, step_answer}
use Rattle.board.specs.declared.replies.StepReply.{StepReply}
use Rattle.board.specs.declared.replies.StepReply.TheVariants.{NoJob, NotYet, Undeclared, TooEarly, Unwritten, Full, Blocked, Done}
use Rattle.turn_cell.specs.Turn.{Begins}
use Rattle.shared_plant.specs.Seats.{PlantFacts, SeatFacts}
use Rattle.shared_plant.specs.declared.tried.Tried.{Tried}
use Rattle.shared_plant.specs.declared.tried.Tried.TheVariants.{Busy, Said}

abbrev pub IsBusy : {X : Type 0} → Tried X → Type 0
IsBusy Busy = Unit {0}
IsBusy (Said x) = ⊥

abbrev pub IfSaid : {X : Type 0} → Tried X → (X → Type 0) → Type 0
IfSaid Busy P = Unit {0}
IfSaid (Said x) P = P x

-- a seat that found the turn taken once more: nothing else of it changes
abbrev pub missed_once : SeatFacts → SeatFacts
missed_once s = record s { missed = s.missed + 1 }

-- a seat's own entries, with the one that it made at the end of a history, or none
abbrev pub with_own : List (ℕ × Entry) → List Entry → Option Entry → List (ℕ × Entry)
with_own mine history None = mine
with_own mine history (Some entry) = mine ++ (length history, entry) ∷ []

-- a seat that took the turn once, at this history of which so many entries were drained, and made this entry or none
abbrev pub turned : SeatFacts → List Entry → ℕ → Option Entry → SeatFacts
turned s history base own = record s {
  seen = noted history own;
  mine = with_own s.mine history own;
  turns = s.turns + 1;
  base = base;
}

-- The call took the turn once, at a history that begins with all that the seat had seen and of which the board kept the
-- part from base on. It was answered there what it says, and made its entry or none.
pub record Answered (set : Set) (found : List Entry → ℕ → Type 0) (own : List Entry → Option Entry) (old new : SeatFacts) : Type 0 where
  pub history : List Entry
  pub base : ℕ
  pub begins : Begins old.seen history
  pub rises : old.base ≤ base
  pub within : base ≤ length history
  pub says : found history base
  pub after : new ≡ turned old history base (own history)
  pub legal : IsLegal set new.seen

-- the call made no entry
abbrev pub nothing : List Entry → Option Entry
nothing history = None

-- What a seat knows after some tries that were told Busy, or that made no entry.
pub record Later (old new : SeatFacts) : Type 0 where
  pub plant : new.plant ≡ old.plant
  pub tx : new.tx ≡ old.tx
  pub seen : Begins old.seen new.seen
  pub mine : new.mine ≡ old.mine
  pub turns : old.turns ≤ new.turns
  pub missed : old.missed ≤ new.missed
  pub drained : new.drained ≡ old.drained
  pub base : old.base ≤ new.base

-- So many tries, each of which was told Busy, or was answered as `waits` says and made no entry.
abbrev pub Tries : Set → (List Entry → ℕ → Type 0) → ℕ → SeatFacts → SeatFacts → Type 0
Tries set waits zero old new = new ≡ old
Tries set waits (suc n) old new = (last : SeatFacts) × Tries set waits n old last × ((new ≡ missed_once last) ⊎ Answered set waits nothing last new)

-- After some tries, each told Busy or answered as `waits` says, one was answered.
pub record AnsweredLate (set : Set) (waits found : List Entry → ℕ → Type 0) (own : List Entry → Option Entry) (old new : SeatFacts) : Type 0 where
  pub before : SeatFacts
  pub number : ℕ
  pub tries : Tries set waits number old before
  pub later : Later old before
  pub answered : Answered set found own before new

-- a seat that took the turn once, at this history, and drained so many entries of it
abbrev pub having_drained : SeatFacts → List Entry → ℕ → SeatFacts
having_drained s history n = record s {
  seen = history;
  turns = s.turns + 1;
  base = s.drained;
  drained = s.drained + n;
}

-- The call took the turn once, at a history that begins with all that the seat had seen, and moved its n oldest kept
-- entries, those from the seat's drained on, to the end of a list: as many as there are, no more than most, and no more
-- than the list has spare places for. The board kept no more than it has room for.
pub record Drained (p : PlantFacts) (most spare : ℕ) (was is : List Entry) (n : ℕ) (old new : SeatFacts) : Type 0 where
  pub history : List Entry
  pub begins : Begins old.seen history
  pub rises : old.base ≤ old.drained
  pub moved : is ≡ was ++ take n (drop old.drained history)
  pub within : old.drained + n ≤ length history
  pub fits : length history - old.drained ≤ p.room
  pub count : n ≡ min most (min (length history - old.drained) spare)
  pub after : new ≡ having_drained old history n
  pub legal : IsLegal p.set new.seen

-- a seat that found the turn taken so many times more
abbrev pub missed_more : SeatFacts → ℕ → SeatFacts
missed_more s n = record s { missed = s.missed + n }

-- After some tries that were told Busy one was answered.
pub record DrainedLate (p : PlantFacts) (most spare : ℕ) (was is : List Entry) (n : ℕ) (old new : SeatFacts) : Type 0 where
  pub misses : ℕ
  pub drained : Drained p most spare was is n (missed_more old misses) new

abbrev pub IsNotYet : StepReply → Type 0
IsNotYet (NoJob ended last) = ⊥
IsNotYet (NotYet running) = Unit {0}
IsNotYet (Undeclared item) = ⊥
IsNotYet (TooEarly left) = ⊥
IsNotYet (Unwritten item) = ⊥
IsNotYet (Full room) = ⊥
IsNotYet (Blocked by ceiling) = ⊥
IsNotYet (Done outcome over) = ⊥

-- the board answers a job's request at a history with NotYet
abbrev pub WaitsAt : Set → ℕ → JobId → Op → List Entry → ℕ → Type 0
WaitsAt set room job op history base = IsNotYet (step_answer set history (length history - base) room job op)
