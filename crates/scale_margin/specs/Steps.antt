-- A set in which one transaction has other steps.
use Rattle.std.specs.Prelude.{ℕ, ◌<◌, ◌≤◌, nat_le, if◌then◌else◌, length, slice_set, Option, None}
use Rattle.txn_set.specs.declared.decl.TxnDecl.{TxnDecl}
use Rattle.txn_set.specs.Set.{Set, txn_of, IsCompiled}
use Rattle.law_times.specs.Ages.{IsAdmitted}
use Rattle.set_admission.specs.declared.error.AdmitError.{AdmitError}
use Rattle.set_admission.specs.Admission.{refusal}

-- a transaction with other steps, all else as it is, its quiet steps too
abbrev pub stepped : TxnDecl → ℕ → TxnDecl
stepped txn count = record txn { steps = count }

abbrev pub with_steps : Set → ℕ → ℕ → Set
with_steps set tx count = record set { txns = slice_set set.txns tx (stepped (txn_of set tx) count) }

-- a count of steps is accepted if the set with it is compiled and admitted
pub record IsAccepted (set : Set) (tx count : ℕ) : Type 0 where
  pub compiled : IsCompiled (with_steps set tx count)
  pub admitted : IsAdmitted (with_steps set tx count)

-- a transaction of the set, and a count of its steps that is within their range and has room for its quiet steps
pub record IsCount (set : Set) (tx count : ℕ) : Type 0 where
  pub there : tx < length set.txns
  pub quiet : (txn_of set tx).quiet < count
  pub range : count ≤ 10000

-- what bars a count: why the set with it is not admitted
unfoldable pub barrier_at : Set → ℕ → ℕ → Option AdmitError
barrier_at set tx count = refusal (with_steps set tx count)

-- nothing is asked of counts above 10,000
abbrev pub barrier_within : Set → ℕ → ℕ → Option AdmitError
barrier_within set tx count = if nat_le count 10000 then barrier_at set tx count else None
