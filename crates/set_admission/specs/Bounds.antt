-- The responses and the age bounds of a set, as they are found.
use Rattle.std.specs.Prelude.{◌≡◌, ℕ, ◌<◌, List, length, slice_index, Some}
use Rattle.std.specs.Option.{unwrap_or}
use Rattle.txn_set.specs.Set.{Set}
use Rattle.law_times.specs.Response.{IsResponse, response}
use Rattle.law_times.specs.Ages.{age_bound, IsAdmittedBy}

-- the response of a transaction, and 0 where it has none
abbrev pub response_of : Set → ℕ → ℕ
response_of set tx = unwrap_or (response set tx) 0

-- the age bound of an item, by these responses
unfoldable pub age_of : Set → ℕ → ℕ
age_of set item = age_bound set (response_of set) item

-- the admission rule by the bounds that are found: each transaction has its response, and the age bounds by the
-- responses are within the validities and the intervals
pub record MeetsAdmission (set : Set) : Type 0 where
  pub responses : (tx : ℕ) → tx < length set.txns → IsResponse set tx (response_of set tx)
  pub ages : IsAdmittedBy set (age_bound set (response_of set))

-- an answer for each transaction, its response
pub record AreResponsesOf (set : Set) (answers : List ℕ) : Type 0 where
  pub one_each : length answers ≡ length set.txns
  pub each : (tx : ℕ) → tx < length set.txns → response set tx ≡ Some (slice_index answers tx)

-- an answer for each item, its age bound
pub record AreAgesOf (set : Set) (answers : List ℕ) : Type 0 where
  pub one_each : length answers ≡ length set.items
  pub each : (item : ℕ) → item < length set.items → slice_index answers item ≡ age_of set item
