-- What the response of each transaction may be: its deadline, and what keeps each sensor item that it writes and that is read as
-- young as its validity asks.
use Rattle.std.specs.Prelude.{◌≡◌, ◌↔◌, ℕ, ◌+◌, ◌-◌, ◌≤◌, min, Bool, if◌then◌else◌, List, Option, None, Some, IsTrue, slice_get}
use Rattle.std.specs.List.{list_any, fold}
use Rattle.std.specs.Option.{option_and_then}
use Rattle.item_model.specs.declared.decl.ItemDecl.{ItemDecl}
use Rattle.item_model.specs.declared.decl.ItemKind.{ItemKind}
use Rattle.item_model.specs.declared.decl.ItemKind.TheVariants.{Sensor}
use Rattle.txn_set.specs.declared.decl.TxnDecl.{TxnDecl}
use Rattle.txn_set.specs.Set.{Set, txn_of, may_read, may_write}

-- the validity of a sensor item; none of another
abbrev pub kind_validity : ItemKind → Option ℕ
kind_validity (Sensor validity) = Some validity
kind_validity other = None

abbrev pub sensor_validity : List ItemDecl → ℕ → Option ℕ
sensor_validity items item = option_and_then (λ d. kind_validity d.kind) (slice_get items item)

-- whether some transaction may read an item
abbrev pub is_read : List TxnDecl → ℕ → Bool
is_read txns item = list_any (λ t. may_read t item) txns

-- the age of a sensor item is at most T + R, so R may be its validity less T
abbrev pub within_validity : Option ℕ → Bool → (period most : ℕ) → ℕ
within_validity None read period most = most
within_validity (Some validity) read period most = if read then min most (validity - period) else most

abbrev pub limit_of : Set → TxnDecl → ℕ
limit_of set txn =
    fold (λ most i. within_validity (sensor_validity set.items i.0) (is_read set.txns i.0) txn.period most) txn.deadline txn.writes

abbrev pub limit : Set → ℕ → ℕ
limit set tx = limit_of set (txn_of set tx)

-- a response that is within the deadline, and keeps what the transaction writes for readers within its validity
pub record IsInLimits (set : Set) (tx response : ℕ) : Type 0 where
  pub deadline : response ≤ (txn_of set tx).deadline
  pub valid :
      (item validity reader : ℕ) → IsTrue (may_write (txn_of set tx) item) → sensor_validity set.items item ≡ Some validity
      → IsTrue (may_read (txn_of set reader) item) → (txn_of set tx).period + response ≤ validity

abbrev pub LimitsAreExact : Type 0
LimitsAreExact = (set : Set) (tx response : ℕ) → 1 ≤ response → (response ≤ limit set tx) ↔ IsInLimits set tx response
