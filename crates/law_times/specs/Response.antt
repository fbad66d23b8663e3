-- Response times, after Joseph and Pandya with the blocking term: the demand on the processor within a window, and
-- the least window that holds its demand.
use Rattle.std.specs.Prelude.{ℕ, zero, suc, ◌+◌, ◌*◌, ◌<◌, ◌≤◌, nat_lt, nat_le, if◌then◌else◌, List, [], ◌∷◌, length, Option, None, Some}
use Rattle.std.specs.Int.{div_ceil}
use Rattle.txn_set.specs.declared.decl.TxnDecl.{TxnDecl}
use Rattle.txn_set.specs.Set.{Set, txn_of}
use Rattle.txn_set.specs.Ceilings.{blocking}

-- the steps of one transaction within w ticks, where it is higher
abbrev pub part_of : ℕ → ℕ → TxnDecl → ℕ
part_of prio w t = if nat_lt prio t.prio then div_ceil w t.period * t.steps else 0

-- the steps of all higher transactions within w ticks
abbrev pub higher_demand : ℕ → ℕ → List TxnDecl → ℕ
higher_demand prio w [] = 0
higher_demand prio w (t ∷ ts) = part_of prio w t + higher_demand prio w ts

-- what a job of a transaction, one lower job and the higher jobs may ask of w ticks
unfoldable pub demand : Set → ℕ → ℕ → ℕ
demand set tx w =
    (txn_of set tx).steps + blocking set (txn_of set tx).prio + higher_demand (txn_of set tx).prio w set.txns

-- r ticks hold their demand, and the deadline holds them
pub record HoldsDemand (set : Set) (tx r : ℕ) : Type 0 where
  pub positive : 1 ≤ r
  pub in_deadline : r ≤ (txn_of set tx).deadline
  pub enough : demand set tx r ≤ r

-- the response of a transaction: the least w from 1 to its deadline that holds its demand
pub record IsResponse (set : Set) (tx r : ℕ) : Type 0 where
  pub holds : HoldsDemand set tx r
  pub least : (w : ℕ) → HoldsDemand set tx w → r ≤ w

-- found by trying each: the first of n windows from w on that holds its demand
abbrev pub first_window : Set → ℕ → ℕ → ℕ → Option ℕ
first_window set tx w zero = None
first_window set tx w (suc n) = if nat_le (demand set tx w) w then Some w else first_window set tx (w + 1) n

unfoldable pub response : Set → ℕ → Option ℕ
response set tx = first_window set tx 1 (txn_of set tx).deadline

-- each transaction has a response
abbrev pub HasResponses : Set → Type 0
HasResponses set = (tx : ℕ) → tx < length set.txns → (r : ℕ) × IsResponse set tx r
