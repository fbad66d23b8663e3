-- A set with other priorities, and what it is to keep limits of the responses.
use Rattle.std.specs.Prelude.{◌≡◌, ℕ, suc, ◌<◌, ◌≤◌, List, [], ◌∷◌, length}
use Rattle.txn_set.specs.declared.decl.TxnDecl.{TxnDecl}
use Rattle.txn_set.specs.Set.{Set}
use Rattle.law_times.specs.Response.{IsResponse}

-- each transaction of a list with the priority of its place, all else as it was
abbrev pub txns_with : (ℕ → ℕ) → List TxnDecl → List TxnDecl
txns_with prios [] = []
txns_with prios (t ∷ ts) = record t { prio = prios 0 } ∷ txns_with (λ tx. prios (suc tx)) ts

-- a set with these priorities
abbrev pub with_prios : (ℕ → ℕ) → Set → Set
with_prios prios set = record set { txns = txns_with prios set.txns }

-- distinct priorities from 1 on
pub record IsAssignment (set : Set) (prios : ℕ → ℕ) : Type 0 where
  pub some : (tx : ℕ) → tx < length set.txns → 1 ≤ prios tx
  pub distinct : (a b : ℕ) → a < length set.txns → b < length set.txns → prios a ≡ prios b → a ≡ b

-- a transaction has a response of at most so many ticks
pub record RespondsWithin (set : Set) (tx most : ℕ) : Type 0 where
  pub response : ℕ
  pub is : IsResponse set tx response
  pub within : response ≤ most

-- with these priorities each transaction has a response within its deadline and its limit
abbrev pub Keeps : Set → (limits prios : ℕ → ℕ) → Type 0
Keeps set limits prios = (tx : ℕ) → tx < length set.txns → RespondsWithin (with_prios prios set) tx (limits tx)
