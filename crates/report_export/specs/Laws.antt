-- What a summary tells is within the bounds beside it.
use Rattle.std.specs.Prelude.{◌≡◌, ℕ, ◌<◌, ◌≤◌, List, length, Some, IsTrue}
use Rattle.txn_set.specs.Set.{Set, txn_of, IsCompiled}
use Rattle.txn_set.specs.Ceilings.{blocking}
use Rattle.item_model.specs.Kinds.{validity_of, is_dated}
use Rattle.step_journal.specs.declared.entry.Entry.{Entry}
use Rattle.step_journal.specs.History.{IsLegal}
use Rattle.step_journal.specs.Timing.{IsSteady}
use Rattle.law_times.specs.Response.{response}
use Rattle.law_times.specs.Ages.{IsAdmitted}
use Rattle.set_admission.specs.Bounds.{response_of, age_of}
use Rattle.job_rows.specs.Rows.{job_rows}
use Rattle.report_export.specs.Worsts.{worst, jobs_of, responses, delays, ages}

-- The worst response of a transaction is within its response, if it has one; the worst delay within its blocking; the
-- greatest age of an item within its validity.
pub record IsWithinLimits (set : Set) (entries : List Entry) : Type 0 where
  pub response :
      (tx bound found : ℕ) → response set tx ≡ Some bound
      → worst (responses (jobs_of tx (job_rows set entries))) ≡ Some found → found ≤ bound
  pub delay :
      (tx found : ℕ) → worst (delays (jobs_of tx (job_rows set entries))) ≡ Some found
      → found ≤ blocking set (txn_of set tx).prio
  pub valid :
      (item validity found : ℕ) → validity_of set.items item ≡ Some validity
      → worst (ages (job_rows set entries) item entries) ≡ Some found → found ≤ validity

-- Over an admitted set the worst response is within the bound that is told beside it, and so, in a steady history, is the
-- greatest age.
pub record IsWithinBounds (set : Set) (entries : List Entry) : Type 0 where
  pub response :
      (tx found : ℕ) → tx < length set.txns → worst (responses (jobs_of tx (job_rows set entries))) ≡ Some found
      → found ≤ response_of set tx
  pub age :
      IsSteady set entries → (item found : ℕ) → IsTrue (is_dated set.items item)
      → worst (ages (job_rows set entries) item entries) ≡ Some found → found ≤ age_of set item

pub record KeepsBounds (set : Set) (entries : List Entry) : Type 0 where
  pub limits : IsWithinLimits set entries
  pub admitted : IsAdmitted set → IsWithinBounds set entries

abbrev pub WithinBounds : Type 0
WithinBounds = (set : Set) (entries : List Entry) → IsCompiled set → IsLegal set entries → KeepsBounds set entries
