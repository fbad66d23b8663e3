-- The struct of two words that owns what a slot owns: the handle of a core.
use Rattle.std.proofs.Common.{refl}
use denote.RattleType.{RattleType}
use denote.Struct.Owning.{shape}
use Rattle.c_core.specs.contracts.checked.CheckedCore as checked
use Rattle.c_core.specs.contracts.handle.Handle as handle
use Rattle.c_forms.proofs.Moved.{Holder}

abbrev pub Core : RattleType
Core = checked.the_row

abbrev pub handle_of_core : Holder Core
handle_of_core = record { row = handle.the_row; shape = shape handle.the_type; parts = λ d. (d.at, d.alloc, d.core); make = λ x. record { at = x.0; alloc = x.1; core = x.2 }; made = λ x. refl }
