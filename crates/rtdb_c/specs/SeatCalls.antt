-- A call by the handle of a seat: `closed` where it is closed and stays so, and else `call` of the seat before and after.
use Rattle.std.specs.Prelude.{◌≡◌, ℕ, length, Option, None, Some}
use Rattle.c_stations.specs.Seats.{SeatSeen, HandsOut, WhyNoneHanded}

abbrev pub SeatCalled : Option SeatSeen → Option SeatSeen → Type 0 → (SeatSeen → SeatSeen → Type 0) → Type 0
SeatCalled None None closed call = closed
SeatCalled None (Some after) closed call = ⊥
SeatCalled (Some before) None closed call = ⊥
SeatCalled (Some before) (Some after) closed call = call before after

-- A further seat was handed out, and is behind the handle that was closed; else nothing was.
abbrev pub HandedTo : (status : ℕ) → Option SeatSeen → Option SeatSeen → (tx_before tx_after : ℕ) → SeatSeen → SeatSeen → Type 0
HandedTo status None (Some seat) before after s t = (status ≡ 0) × HandsOut s t after seat
HandedTo status None None before after s t = WhyNoneHanded s.left status × (t ≡ s) × (after ≡ before)
HandedTo status (Some was) is before after s t = (status ≡ 2) × (is ≡ Some was) × (t ≡ s) × (after ≡ before)

abbrev pub IsFrontOf : (status : ℕ) → (before after : ℕ) → SeatSeen → SeatSeen → Type 0
IsFrontOf status before after s t = (status ≡ 0) × (t ≡ s) × (after ≡ length s.seat.seen)
