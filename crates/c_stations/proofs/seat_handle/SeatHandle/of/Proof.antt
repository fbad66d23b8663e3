use Rattle.std.proofs.Common.{◌≡◌, refl}
use Rattle.c_forms.proofs.Moved.{moved}
use Rattle.c_forms.proofs.Moved.{slot_of}
use Rattle.c_stations.proofs.Holders.{Seat, handle_of_seat}
use Rattle.c_stations.specs.contracts.seat_handle.SeatHandle.of as f
use Rattle.c_stations.proofs.seat_handle.SeatHandle.of.Statement.{statement}
use Rattle.c_stations.proofs.seat_handle.SeatHandle.of.Code as code

pub of_spec : {M : Type 1} → statement M
of_spec 𝓤 𝓛 𝓜 𝓡 wired = moved Seat 𝓤 (slot_of Seat) handle_of_seat (λ d r. r.seat ≡ d.value) 𝓛 𝓜 𝓡 f.Key.name (code.unfolded 𝓤 𝓛.H 𝓜 𝓡 wired) (λ x w. refl) (λ x. tt) (λ d. refl)
