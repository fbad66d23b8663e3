use Rattle.std.proofs.Common.{◌≡◌, refl}
use Rattle.c_forms.proofs.Moved.{moved}
use Rattle.c_forms.proofs.Moved.{slot_of}
use Rattle.c_core.proofs.Holders.{Core, handle_of_core}
use Rattle.c_core.specs.contracts.handle.Handle.of as f
use Rattle.c_core.proofs.handle.Handle.of.Statement.{statement}
use Rattle.c_core.proofs.handle.Handle.of.Code as code

pub of_spec : {M : Type 1} → statement M
of_spec 𝓤 𝓛 𝓜 𝓡 wired = moved Core 𝓤 (slot_of Core) handle_of_core (λ d r. r.core ≡ d.value) 𝓛 𝓜 𝓡 f.Key.name (code.unfolded 𝓤 𝓛.H 𝓜 𝓡 wired) (λ x w. refl) (λ x. tt) (λ d. refl)
