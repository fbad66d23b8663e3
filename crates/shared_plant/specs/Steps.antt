-- A turn of several steps of one job, for which an asker asks.
use Rattle.std.specs.Prelude.{◌≡◌, ◌⊎◌, ℕ, zero, suc, true, ◌-◌, ◌≤◌, ◌<◌, List, Option, Some, None, length}
use Rattle.rt_base.specs.declared.ids.JobId.{JobId}
use Rattle.rt_base.specs.declared.operation.Op.{Op}
use Rattle.step_journal.specs.declared.entry.Entry.{Entry}
use Rattle.step_journal.specs.History.{IsLegal}
use Rattle.txn_set.specs.Set.{Set}
use Rattle.board.specs.Histories.{noted, step_answer, step_entry, now_of, running_of}
use Rattle.board.specs.declared.replies.StepReply.{StepReply}
use Rattle.board.specs.declared.replies.StepReply.TheVariants.{NoJob, NotYet, Undeclared, TooEarly, Unwritten, Full, Blocked, Done}
use Rattle.turn_cell.specs.Turn.{Begins}
use Rattle.turn_cell.specs.declared.view.View.{View}
use Rattle.turn_cell.specs.Seats.{Standing}
use Rattle.shared_plant.specs.Seats.{PlantFacts, SeatFacts, view_of}
use Rattle.shared_plant.specs.Shared.{noting_own}
use Rattle.shared_plant.specs.Answers.{with_own, turned}

-- a seat in a turn, after an entry of its own or none
abbrev pub stepped : SeatFacts → Option Entry → SeatFacts
stepped s own = record s { seen = noted s.seen own; mine = with_own s.mine s.seen own }

-- the operation was done, and the job has not ended by it
abbrev pub IsOn : StepReply → Type 0
IsOn (NoJob ended last) = ⊥
IsOn (NotYet running) = ⊥
IsOn (Undeclared item) = ⊥
IsOn (TooEarly left) = ⊥
IsOn (Unwritten item) = ⊥
IsOn (Full room) = ⊥
IsOn (Blocked by ceiling) = ⊥
IsOn (Done outcome None) = Unit {0}
IsOn (Done outcome (Some end)) = ⊥

-- after this answer and at this history the job may ask on in the same turn: it runs
abbrev pub GoesOn : Set → JobId → StepReply → List Entry → Type 0
GoesOn set job r seen = IsOn r × (running_of set seen ≡ Some job)

module _ {A : Type 0} (asks : A → Op → Type 0) (hears : A → Op → StepReply → A → Type 0) where
  -- A job asked for what its asker says, at a history of which the board keeps the part from base on. The board answered as
  -- it does there, which made this entry or none, and the asker heard the answer.
  pub record AskedAt (set : Set) (room base : ℕ) (job : JobId) (seen : List Entry) (own : Option Entry) (r : StepReply) (a b : A) : Type 0 where
    pub op : Op
    pub asked : asks a op
    pub says : r ≡ step_answer set seen (length seen - base) room job op
    pub own_is : own ≡ step_entry (now_of set seen) job op r
    pub heard : hears a op r b

  -- one step of a seat that holds the turn
  pub record Asked (set : Set) (room : ℕ) (job : JobId) (r : StepReply) (a b : A) (s t : SeatFacts) : Type 0 where
    pub own : Option Entry
    pub at : AskedAt set room s.base job s.seen own r a b
    pub after : t ≡ stepped s own

  -- so many steps, one after another, after each of which the job may ask on
  abbrev pub Through : Set → ℕ → JobId → ℕ → A → A → SeatFacts → SeatFacts → Type 0
  Through set room job zero a b s t = (b ≡ a) × (t ≡ s)
  Through set room job (suc n) a b s t =
      (c : A) × (u : SeatFacts) × (r : StepReply)
      × Through set room job n a c s u × Asked set room job r c b u t × GoesOn set job r t.seen

  -- All steps of a turn: each after which the job may ask on, up to the most that a turn has, or one more after which it may
  -- not.
  pub record Steps (set : Set) (room : ℕ) (job : JobId) (most : ℕ) (a b : A) (s t : SeatFacts) : Type 0 where
    pub number : ℕ
    pub asker : A
    pub seat : SeatFacts
    pub through : Through set room job number a asker s seat
    pub last : ((number ≡ most) × (b ≡ asker) × (t ≡ seat)) ⊎ ((number < most) × ((r : StepReply) × Asked set room job r asker b seat t × (GoesOn set job r t.seen → ⊥)))

  -- The call took the turn once, at a history that begins with all that the seat had seen and of which the board kept the part
  -- from base on, and made these steps there. This job runs after them.
  pub record Stepped (p : PlantFacts) (job : JobId) (most : ℕ) (running : Option JobId) (a b : A) (old new : SeatFacts) : Type 0 where
    pub history : List Entry
    pub base : ℕ
    pub begins : Begins old.seen history
    pub rises : old.base ≤ base
    pub within : base ≤ length history
    pub steps : Steps p.set p.room job most a b (turned old history base None) new
    pub running_is : running ≡ running_of p.set new.seen
    pub legal : IsLegal p.set new.seen

-- inside a turn

abbrev pub holding : View Entry → View Entry
holding v = record v { holds = true }

-- the seat below of a seat that holds the turn
abbrev pub IsHeld : SeatFacts → Standing Entry → Type 0
IsHeld s t = (t.cell ≡ s.plant) × (t.view ≡ holding (view_of s))

-- One step, as the seat below sees it: whether the job may ask on, as far as the answer tells.
module _ {A : Type 0} (asks : A → Op → Type 0) (hears : A → Op → StepReply → A → Type 0) where
  pub record OneStep (set : Set) (room base : ℕ) (job : JobId) (on : Type 0) (off : Type 0) (a b : A) (v w : View Entry) : Type 0 where
    pub own : Option Entry
    pub reply : StepReply
    pub at : AskedAt asks hears set room base job v.seen own reply a b
    pub view : w ≡ noting_own v own
    pub on_is : on → IsOn reply
    pub off_is : off → IsOn reply → ⊥
