-- Age bounds of sensor and derived items, by the equation and found by levels, and what an admitted set meets.
use Rattle.std.specs.Prelude.{◌≡◌, ℕ, zero, suc, ◌+◌, ◌<◌, ◌≤◌, false, List, [], ◌∷◌, map, length, if◌then◌else◌, Some, IsTrue}
use Rattle.std.specs.List.{All, filter}
use Rattle.rt_base.specs.declared.ids.ItemId.{ItemId}
use Rattle.rt_base.specs.declared.ids.TogetherDecl.{TogetherDecl}
use Rattle.txn_set.specs.declared.decl.TxnDecl.{TxnDecl}
use Rattle.txn_set.specs.Set.{Set, txn_of, may_read, may_write, IsTheWriter, IsCompiled}
use Rattle.txn_set.specs.Ceilings.{greatest}
use Rattle.item_model.specs.Kinds.{validity_of, is_dated, is_derived}
use Rattle.law_times.specs.Response.{IsResponse}

-- the greatest bound of the sensor and derived items that a transaction may read, and 0 where there are none
abbrev pub greatest_read : Set → (ℕ → ℕ) → ℕ → ℕ
greatest_read set bound tx =
    greatest (map (λ i. bound i.0) (filter (λ i. is_dated set.items i.0) (txn_of set tx).reads))

-- the age bounds, by response bounds of the transactions: a sensor item has the period and the response bound of its
-- writer, and a derived item besides the greatest age bound of what the writer reads
pub record IsAgeBound (set : Set) (response bound : ℕ → ℕ) : Type 0 where
  pub sensor :
      (item tx : ℕ) → IsTrue (is_dated set.items item) → is_derived set.items item ≡ false → IsTheWriter set item tx
      → bound item ≡ (txn_of set tx).period + response tx
  pub derived :
      (item tx : ℕ) → IsTrue (is_derived set.items item) → IsTheWriter set item tx
      → bound item ≡ (txn_of set tx).period + response tx + greatest_read set bound tx

-- The age bounds, found by levels: an item that depends on no other is at the first, and there are no more levels than
-- items.

-- the number of the first transaction that may write an item
abbrev pub first_writer : List TxnDecl → ℕ → ℕ
first_writer [] item = 0
first_writer (t ∷ ts) item = if may_write t item then 0 else suc (first_writer ts item)

abbrev pub writer_of : Set → ℕ → ℕ
writer_of set item = first_writer set.txns item

abbrev pub age_by : Set → (ℕ → ℕ) → ℕ → ℕ → ℕ
age_by set response zero item = 0
age_by set response (suc n) item =
    (txn_of set (writer_of set item)).period + response (writer_of set item)
    + (if is_derived set.items item then greatest_read set (age_by set response n) (writer_of set item) else 0)

abbrev pub age_bound : Set → (ℕ → ℕ) → ℕ → ℕ
age_bound set response item = age_by set response (suc (length set.items)) item

-- those of a compiled set are the age bounds, and there are no others
pub record AgesAreBounds (set : Set) (response : ℕ → ℕ) : Type 0 where
  pub bounds : IsAgeBound set response (age_bound set response)
  pub only :
      (bound : ℕ → ℕ) → IsAgeBound set response bound → (item : ℕ) → IsTrue (is_dated set.items item)
      → bound item ≡ age_bound set response item

abbrev pub AgeBounds : Type 0
AgeBounds = (set : Set) (response : ℕ → ℕ) → IsCompiled set → AgesAreBounds set response

-- the items of a relative set that a transaction may read
abbrev pub read_together : TxnDecl → TogetherDecl → List ItemId
read_together txn group = filter (λ i. may_read txn i.0) group.items

-- the age bound of each item that is read is at most its validity, and of those of a relative set that are read
-- together at most the interval
pub record IsAdmittedBy (set : Set) (bound : ℕ → ℕ) : Type 0 where
  pub valid :
      (tx item validity : ℕ) → IsTrue (may_read (txn_of set tx) item) → validity_of set.items item ≡ Some validity
      → bound item ≤ validity
  pub within :
      (tx : ℕ) → All (λ g. 2 ≤ length (read_together (txn_of set tx) g)
      → greatest (map (λ i. bound i.0) (read_together (txn_of set tx) g)) ≤ g.within) set.together

-- each transaction has a response, and the age bounds by these are within the validities and the intervals
pub record IsAdmitted (set : Set) : Type 0 where
  pub response : ℕ → ℕ
  pub responses : (tx : ℕ) → tx < length set.txns → IsResponse set tx (response tx)
  pub ages : IsAdmittedBy set (age_bound set response)
