-- A handle may go to another thread, as what it has may.
use mir.Raw.{raw}
use base.Fml.{Fml}
use base.Fraction.{full_share}
use base.Shift.{Keyless}
use denote.Exit.{Exit, unchanged, leaves, hidden, under}
use denote.Memory.{lone}
use denote.RattleType.{RattleType}
use denote.RawPtr.{Ptr, block_ptr, null_ptr}
use denote.Struct.Struct.{exits_of}
use denote.Struct.Record.{Record}
use denote.Struct.Owning.{Codes, owning, row, shape, fields, to}
use denote.Param.Send.{IsSend, Quiet, AllSend, part_keyless, owning_send, struct_send}
use Rattle.std.specs.Prelude.{Option, None, Some}
use Rattle.std.specs.declared.alloc.Global.{Global}
use Rattle.std.proofs.Crossing.{frees}
use Rattle.c_forms.specs.Held.{held}

quiet : {D X : Type 0} (to : D → X) (e : Exit X) → Quiet e → Quiet (hidden (under to e))
quiet to unchanged q = λ x w. tt
quiet to (leaves L l S s r₀) q = λ d. q (to d)

pub held_keyless : (T : RattleType) → IsSend T → (a : Global) (p : Ptr) (s : Option T.Denot) → Keyless (held T a p s)
held_keyless T send a p None = tt
held_keyless T send a (block_ptr b o) (Some x) = (part_keyless T send full_share x b o, frees.frees a (raw (lone T.mir)) (block_ptr b o))
held_keyless T send a null_ptr (Some x) = (tt, frees.frees a (raw (lone T.mir)) null_ptr)

pub crosses : (N : Record) (codes : Codes N) (heap : N.D → Fml) → let O = owning N codes heap in AllSend (fields O) → ((d : N.D) → Keyless (heap d)) → IsSend (row O)
crosses N codes heap all keyless = let O = owning N codes heap in owning_send O all keyless (λ k. quiet (to O) (exits_of k (fields O)) ((struct_send (shape O) all).leaving k))
