use denote.Param.Send.{IsSend, sendable}
use Rattle.std.specs.contracts.alloc.Global as global
use Rattle.std.proofs.alloc.Global.TheSendSync as heap
use Rattle.c_core.specs.contracts.checked.CheckedCore as checked
use Rattle.c_core.proofs.checked.CheckedCore.TheSendSync as checked_crosses
use Rattle.c_forms.proofs.Crosses.{held_keyless, crosses}
use Rattle.c_core.specs.contracts.handle.Handle.{struct, the_codes, the_heap, the_row}

pub send : IsSend the_row
send = crosses struct (the_codes (global.the_row).coded) the_heap (search sendable, (heap.the_field_send, tt)) (λ d. held_keyless checked.the_row checked_crosses.the_send d.alloc d.at d.core)
