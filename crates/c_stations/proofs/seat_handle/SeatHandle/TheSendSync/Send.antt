use denote.Param.Send.{IsSend, sendable}
use Rattle.std.specs.contracts.alloc.Global as global
use Rattle.std.proofs.alloc.Global.TheSendSync as heap
use Rattle.c_stations.specs.contracts.seat_station.SeatStation as station
use Rattle.c_stations.proofs.seat_station.SeatStation.TheSendSync as station_crosses
use Rattle.c_forms.proofs.Crosses.{held_keyless, crosses}
use Rattle.c_stations.specs.contracts.seat_handle.SeatHandle.{struct, the_codes, the_heap, the_row}

pub send : IsSend the_row
send = crosses struct (the_codes (global.the_row).coded) the_heap (search sendable, (heap.the_field_send, tt)) (λ d. held_keyless station.the_row station_crosses.the_send d.alloc d.at d.seat)
