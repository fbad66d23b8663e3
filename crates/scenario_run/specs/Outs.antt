-- What an out over a journal got, and what it lost.
use Rattle.std.specs.Prelude.{◌≡◌, ◌↔◌, ℕ, ◌+◌, ◌<◌, ◌≤◌, Bool, false, List, [], ◌++◌, length, drop, ⊤, Option, None, IfSome, IsSome}
use Rattle.rt_base.specs.Names.{AreNames}
use Rattle.rt_base.specs.declared.name.Names.{Names}
use Rattle.txn_set.specs.Set.{Set}
use Rattle.step_journal.specs.declared.entry.Entry.{Entry}
use Rattle.report_text.specs.Texts.{NamesSet}
use Rattle.durable_disk.specs.Device.{LeavesOnly}
use Rattle.durable_disk.specs.Standing.{RecordsSeen}
use Rattle.durable_journal.specs.Log.{StandsFor, HasSome}
use Rattle.scenario_run.specs.declared.standing.JournalStanding.{JournalStanding}
use Rattle.scenario_run.specs.declared.standing.JournalStanding.TheVariants.{Going, Faulted, Other}
use Rattle.scenario_run.specs.Compared.{Agree, Begins, IsFirstOther, with_rest}

-- with what an out began: the names and the set of the history, the entries that stood on the disk, for how many there is
-- room in all, and the disk
pub record Begun (D : Type 0) : Type 0 where
  pub names : Names
  pub set : Set
  pub there : List Entry
  pub room : ℕ
  pub disk : Option D

abbrev pub nothing : {D : Type 0} → Begun D
nothing {D} = record {
  names = record { items = []; txns = [] };
  set = record { items = []; txns = []; together = [] };
  there = [];
  room = 0;
  disk = None;
}

-- an out began with these, and its disk tells what a read gives where it did then
pub record IsOf {D : Type 0} (seen : D → Option (List ℕ)) (begun : Begun D) (names : Names) (set : Set) (there : List Entry) (room : ℕ) (now : D) : Type 0 where
  pub names_are : names ≡ begun.names
  pub set_is : set ≡ begun.set
  pub there_is : there ≡ begun.there
  pub room_is : room ≡ begun.room
  pub tells : IfSome begun.disk (λ disk. IsSome (seen disk) ↔ IsSome (seen now))

-- At each moment since the out began a crash leaves a journal that is opened as the entries that stood there, with some in
-- order of those of the history behind them.
abbrev pub LeavesFronts : {D : Type 0} → (D → Option (List ℕ)) → (D → ℕ) → (D → ℕ → List ℕ → Type 0) → Names → Set → Option D → D → List Entry → List Entry → Type 0
LeavesFronts seen moment left_since names set begun now there history =
    IfSome begun (λ disk. IsSome (seen disk) → LeavesOnly moment left_since disk now (HasSome names set there (drop (length there) history)))

-- the disk is as it was when the out began
abbrev pub IsUntouched : {D : Type 0} → Option D → D → Type 0
IsUntouched begun now = IfSome begun (λ disk. now ≡ disk)

-- The log, which goes on, stands for what the out got and for what the disk has beyond it, and both agree as far as they go.
-- The disk is untouched while it has all that the out got.
pub record IsGoing {D : Type 0} (seen : D → Option (List ℕ)) (may_leave : D → List ℕ → Type 0) (moment : D → ℕ) (left_since : D → ℕ → List ℕ → Type 0) (names : Names) (set : Set)
    (begun : Option D) (log : RecordsSeen D) (there history : List Entry) : Type 0 where
  pub item_names : AreNames names.items
  pub txn_names : AreNames names.txns
  pub one_each : NamesSet names set
  pub goes : log.stopped ≡ false
  pub agrees : Agree there history
  pub stands : StandsFor seen may_leave names set log (with_rest there history)
  pub untouched : length history ≤ length there → IsUntouched begun log.disk
  pub moments : LeavesFronts seen moment left_since names set begun log.disk there history

-- The log goes on and stands for this history, which begins with what the disk had.
pub record IsWritten {D : Type 0} (seen : D → Option (List ℕ)) (may_leave : D → List ℕ → Type 0) (names : Names) (set : Set)
    (log : RecordsSeen D) (there history : List Entry) : Type 0 where
  pub begins : Begins there history
  pub goes : log.stopped ≡ false
  pub stands : StandsFor seen may_leave names set log history

-- of what an out that has stopped got nothing more is said
abbrev pub TakenAt : JournalStanding → Type 0 → Type 0
TakenAt Going is_going = is_going
TakenAt Faulted is_going = ⊤
TakenAt (Other place) is_going = ⊤

-- the first other entry is in a place of the piece
pub record IsOtherIn (there kept piece : List Entry) (place : ℕ) : Type 0 where
  pub first : IsFirstOther there (kept ++ piece) place
  pub behind : length kept ≤ place
  pub in_piece : place < length kept + length piece

-- what the out lost: nothing, the piece at which the disk failed and behind which the disk has nothing, or the one of which
-- the disk has another entry
abbrev pub LostAt : JournalStanding → List Entry → List Entry → List Entry → Type 0
LostAt Going there kept piece = piece ≡ []
LostAt Faulted there kept piece = (0 < length piece) × Begins there (kept ++ piece)
LostAt (Other place) there kept piece = IsOtherIn there kept piece place

-- What is left of the disk where the out lost a piece: where the disk failed, a crash leaves some of the history with the piece;
-- where it has another entry it is untouched.
abbrev pub LeftAt : {D : Type 0} → (D → Option (List ℕ)) → (D → ℕ) → (D → ℕ → List ℕ → Type 0) → Names → Set → Option D → D → JournalStanding → List Entry → List Entry → List Entry → Type 0
LeftAt seen moment left_since names set begun now Going there kept piece = ⊤
LeftAt seen moment left_since names set begun now Faulted there kept piece = LeavesFronts seen moment left_since names set begun now there (kept ++ piece)
LeftAt seen moment left_since names set begun now (Other place) there kept piece = IsUntouched begun now

-- a stop at another entry
abbrev pub other_stops : JournalStanding → ℕ
other_stops Going = 0
other_stops Faulted = 0
other_stops (Other place) = 1
