-- What a handle owns: nothing where it is closed, and then its pointer is null; else the box of its value.
use Rattle.std.specs.Prelude.{Option, None, Some}
use base.Fml.{Fml, feq}
use denote.RattleType.{RattleType}
use denote.RawPtr.{Ptr, null_ptr}
use Rattle.std.specs.declared.alloc.Global.{Global}
use Rattle.std.specs.contracts.impls.GlobalAllocator.TheImpl.{ghosts}
use Rattle.std.specs.Box.Ownership.{box_owns}

abbrev pub held : (R : RattleType) → Global → Ptr → Option R.Denot → Fml
held R alloc at None = feq Ptr at null_ptr
held R alloc at (Some x) = box_owns (ghosts.dealloc_token alloc) R at x
