-- What contracts see of a seat that a program in C holds.
use Rattle.std.specs.Prelude.{◌≡◌, ◌≢◌, ℕ, ◌+◌, ◌≤◌, ◌^◌, List, [], length, Option, None, Some}
use Rattle.rt_base.specs.declared.ids.TxId.{TxId}
use Rattle.step_journal.specs.declared.entry.Entry.{Entry}
use Rattle.txn_set.specs.Set.{IsCompiled}
use Rattle.set_admission.specs.Bounds.{MeetsAdmission}
use Rattle.law_times.specs.Ages.{IsAdmitted}
use Rattle.txn_compiler.specs.Kept.{kept}
use Rattle.admitted_core.specs.Seen.{AdmittedSeen}
use Rattle.shared_plant.specs.Seats.{PlantFacts, SeatFacts, IsOf, newcomer, newcomers, tx_of}
use Rattle.c_forms.specs.declared.tables.Tables.{Tables}
use Rattle.c_forms.specs.Rows.{set_of_tables, FitTables}

-- The plant, the seat, and how many transactions' seats it has that were not handed out.
pub record SeatSeen : Type 0 where
  pub plant : PlantFacts
  pub seat : SeatFacts
  pub left : ℕ

abbrev pub seen_of : PlantFacts → SeatFacts → ℕ → SeatSeen
seen_of plant seat left = record { plant = plant; seat = seat; left = left }

-- the operator's seat has places for 64 entries
abbrev pub HasPlaces : Option TxId → ℕ → Type 0
HasPlaces None places = places ≡ 64
HasPlaces (Some tx) places = Unit {0}

-- What a seat keeps: it is of its plant, over an admitted set; the seats that were not handed out are those of the first
-- transactions, and have made no call; its numbers are those of the set's transactions and items.
pub record IsStation (plant : PlantFacts) (seat : SeatFacts) (others : List SeatFacts) (spare : List Entry) (places txns items : ℕ) : Type 0 where
  pub is_of : IsOf plant seat
  pub compiled : IsCompiled plant.set
  pub meets : MeetsAdmission plant.set
  pub others_are : others ≡ newcomers plant.id [] 0 (length others)
  pub few : length others ≤ length plant.set.txns
  pub empty : spare ≡ []
  pub has_places : HasPlaces seat.tx places
  pub txns_are : txns ≡ length plant.set.txns
  pub items_are : items ≡ length plant.set.items

-- the operator's seat of a plant on this core, which is new, with all other seats
pub record IsStarted (core : AdmittedSeen) (s : SeatSeen) : Type 0 where
  pub set_is : s.plant.set ≡ core.board.set
  pub room_is : s.plant.room ≡ core.board.journal.room
  pub start : s.plant.start ≡ 0
  pub seats : s.plant.seats ≡ length s.plant.set.txns + 1
  pub operator : s.seat ≡ newcomer s.plant.id [] 0 None
  pub left : s.left ≡ length s.plant.set.txns

-- A plant over the set of the tables, which are fit and admitted, at the opening state: the operator's seat, with all other
-- seats. Nobody has made a call.
pub record PlantOpened (tables : Tables) (room : ℕ) (s : SeatSeen) : Type 0 where
  pub fit : FitTables tables
  pub set_is : s.plant.set ≡ kept (set_of_tables tables)
  pub is_admitted : IsAdmitted s.plant.set
  pub room_is : s.plant.room ≡ room
  pub small : room ≤ 2 ^ 20
  pub start : s.plant.start ≡ 0
  pub seats : s.plant.seats ≡ length s.plant.set.txns + 1
  pub operator : s.seat ≡ newcomer s.plant.id [] 0 None
  pub left : s.left ≡ length s.plant.set.txns

-- the seat of this transaction, the last that was left, is handed out
pub record HandsOut (old new : SeatSeen) (tx : ℕ) (handed : SeatSeen) : Type 0 where
  pub last : old.left ≡ tx + 1
  pub rest : new ≡ seen_of old.plant old.seat tx
  pub seat : handed ≡ seen_of old.plant (newcomer old.plant.id [] 0 (Some (tx_of tx))) 0

-- 6 where no seat is left, and else want of memory
abbrev pub WhyNoneHanded : ℕ → ℕ → Type 0
WhyNoneHanded left status = (left ≡ 0 → status ≡ 6) × (left ≢ 0 → status ≡ 11)
