-- What is found of a scenario's rates and of its margin.
use Rattle.std.proofs.Common.{◌≡◌, ◌≢◌, Option, Some, refl, ap₂}
use Rattle.update_rates.specs.declared.error.RateError.{RateError}
use Rattle.update_rates.specs.declared.error.RateError.TheVariants.{OutOfMemory}
use Rattle.update_rates.specs.Refusal.{Refuses}

-- an error other than want of memory is the refusal
pub is_rate_refusal : (found : Option RateError) (e : RateError) → e ≢ OutOfMemory → Refuses found e → found ≡ Some e
is_rate_refusal found OutOfMemory n r = absurd (n refl)
is_rate_refusal found e n r = r
