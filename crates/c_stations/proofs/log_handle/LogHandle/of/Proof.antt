use Rattle.std.proofs.Common.{◌≡◌, refl}
use Rattle.c_forms.proofs.Moved.{moved}
use Rattle.c_forms.proofs.Moved.{slot_of}
use Rattle.c_stations.proofs.Holders.{Log, handle_of_log}
use Rattle.c_stations.specs.contracts.log_handle.LogHandle.of as f
use Rattle.c_stations.proofs.log_handle.LogHandle.of.Statement.{statement}
use Rattle.c_stations.proofs.log_handle.LogHandle.of.Code as code

pub of_spec : {M : Type 1} → statement M
of_spec 𝓤 𝓛 𝓜 𝓡 wired = moved Log 𝓤 (slot_of Log) handle_of_log (λ d r. r.station ≡ d.value) 𝓛 𝓜 𝓡 f.Key.name (code.unfolded 𝓤 𝓛.H 𝓜 𝓡 wired) (λ x w. refl) (λ x. tt) (λ d. refl)
