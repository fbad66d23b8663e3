-- The structs of two words that own what a slot owns: the handles of a seat and of a log.
use Rattle.std.proofs.Common.{refl}
use denote.RattleType.{RattleType}
use denote.Struct.Owning.{shape}
use Rattle.c_forms.proofs.Moved.{Holder}
use Rattle.c_stations.specs.contracts.log_station.LogStation as log_station
use Rattle.c_stations.specs.contracts.log_handle.LogHandle as log_handle
use Rattle.c_stations.specs.contracts.seat_station.SeatStation as seat_station
use Rattle.c_stations.specs.contracts.seat_handle.SeatHandle as seat_handle

abbrev pub Log : RattleType
Log = log_station.the_row

abbrev pub Seat : RattleType
Seat = seat_station.the_row

abbrev pub handle_of_log : Holder Log
handle_of_log = record { row = log_handle.the_row; shape = shape log_handle.the_type; parts = λ d. (d.at, d.alloc, d.station); make = λ x. record { at = x.0; alloc = x.1; station = x.2 }; made = λ x. refl }

abbrev pub handle_of_seat : Holder Seat
handle_of_seat = record { row = seat_handle.the_row; shape = shape seat_handle.the_type; parts = λ d. (d.at, d.alloc, d.seat); make = λ x. record { at = x.0; alloc = x.1; seat = x.2 }; made = λ x. refl }
