-- What admission is good for: it is the admission rule, and over an admitted set the laws of deadlines and of freshness
-- hold by the responses and age bounds that are found.
use Rattle.std.specs.Prelude.{◌≡◌, ◌≢◌, ◌↔◌, ℕ, ◌<◌, List, length, slice_index_or, None}
use Rattle.std.specs.List.{All, AllPairs, Contains}
use Rattle.rt_base.specs.declared.operation.End.TheVariants.{Late}
use Rattle.rt_base.specs.declared.ids.TxId.{TxId}
use Rattle.response_test.specs.Response.{response_at}
use Rattle.age_bounds.specs.Age.{age_of as age_of_row}
use Rattle.step_journal.specs.declared.entry.Entry.{Entry}
use Rattle.step_journal.specs.History.{IsLegal, state_of}
use Rattle.step_journal.specs.Timing.{IsSteady}
use Rattle.txn_set.specs.Set.{Set, IsCompiled}
use Rattle.law_times.specs.Response.{response}
use Rattle.law_times.specs.Deadlines.{IsInTime}
use Rattle.law_times.specs.Ages.{IsAdmitted}
use Rattle.law_times.specs.Freshness.{EndsAreFresh}
use Rattle.set_admission.specs.Bounds.{response_of, age_of, MeetsAdmission}
use Rattle.set_admission.specs.Admission.{prio_of, falling, refusal}
use Rattle.set_admission.specs.Rows.{resp_rows, age_rows}

-- each transaction stands once among those in falling priority, above the lower ones
pub record StandsFalling (set : Set) : Type 0 where
  pub one_each : length (falling set) ≡ length set.txns
  pub has : (tx : ℕ) → tx < length set.txns → Contains (falling set) (record { 0 = tx })
  pub in_range : All (λ t. t.0 < length set.txns) (falling set)
  pub falls : AllPairs (λ s t. prio_of set t < prio_of set s) (falling set)

abbrev pub FallingPriority : Type 0
FallingPriority = (set : Set) → IsCompiled set → StandsFalling set

-- the rows have the responses of the transactions, in falling priority, and the age bounds of the items
pub record RowsAgree (set : Set) : Type 0 where
  pub responses : (rank : ℕ) (tx : TxId) → rank < length set.txns → slice_index_or (falling set) rank tx ≡ tx
      → response_at (resp_rows set (falling set)) rank ≡ response set tx.0
  pub ages : (item : ℕ) → item < length set.items → age_of_row (age_rows set) item ≡ age_of set item

abbrev pub RowsOfSet : Type 0
RowsOfSet = (set : Set) → IsCompiled set → RowsAgree set

-- a set is refused exactly where it does not meet the admission rule
pub record IsDecided (set : Set) : Type 0 where
  pub by_rule : (refusal set ≡ None) ↔ IsAdmitted set
  pub by_found : (refusal set ≡ None) ↔ MeetsAdmission set

abbrev pub AdmittedUnlessRefused : Type 0
AdmittedUnlessRefused = (set : Set) → IsCompiled set → IsDecided set

-- each job ends within its transaction's response, none is late, and in a steady history what is read is within the age
-- bounds
pub record KeepsBounds (set : Set) (entries : List Entry) : Type 0 where
  pub in_time : (tx : ℕ) → tx < length set.txns → IsInTime tx (response_of set tx) (state_of set entries)
  pub none_late : All (λ e. e.end ≢ Late) (state_of set entries).ended
  pub fresh : IsSteady set entries → EndsAreFresh set (age_of set) entries

abbrev pub AdmittedKeepsBounds : Type 0
AdmittedKeepsBounds = (set : Set) (entries : List Entry) → IsCompiled set → MeetsAdmission set → IsLegal set entries
    → KeepsBounds set entries
