use Rattle.std.proofs.Common.{◌≡◌, refl}
use Rattle.c_forms.proofs.Moved.{moved}
use Rattle.c_forms.proofs.Moved.{slot_of}
use Rattle.c_core.proofs.Holders.{Core, handle_of_core}
use Rattle.c_core.specs.contracts.handle.Handle.into_slot as f
use Rattle.c_core.proofs.handle.Handle.into_slot.Statement.{statement}
use Rattle.c_core.proofs.handle.Handle.into_slot.Code as code

pub into_slot_spec : {M : Type 1} → statement M
into_slot_spec 𝓤 𝓛 𝓜 𝓡 wired = moved Core 𝓤 handle_of_core (slot_of Core) (λ d r. r.value ≡ d.core) 𝓛 𝓜 𝓡 f.Key.name (code.unfolded 𝓤 𝓛.H 𝓜 𝓡 wired) (λ x w. refl) (λ x. tt) (λ d. refl)
