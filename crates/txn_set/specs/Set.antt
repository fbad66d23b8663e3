-- A set of items, transactions and relative sets, as declared, and what a compiled one meets. A transaction and an item go by
-- their places in the lists.
use Rattle.std.specs.Prelude.{◌≡◌, ◌≢◌, ℕ, zero, suc, ◌+◌, ◌*◌, ◌^◌, ◌<◌, ◌≤◌, ◌==◌, Bool, List, [], length, slice_index_or, IsTrue}
use Rattle.std.specs.List.{All, AllPairs, list_any}
use Rattle.rt_base.specs.declared.ids.ItemId.{ItemId}
use Rattle.rt_base.specs.declared.ids.TogetherDecl.{TogetherDecl}
use Rattle.item_model.specs.declared.decl.ItemDecl.{ItemDecl}
use Rattle.item_model.specs.Kinds.{is_dated, is_derived}
use Rattle.txn_set.specs.declared.decl.TxnDecl.{TxnDecl}

pub record Set : Type 0 where
  pub items : List ItemDecl
  pub txns : List TxnDecl
  pub together : List TogetherDecl

-- a transaction of this priority, period and number of steps, with its deadline at its period, no offset and no quiet step
abbrev pub declared : ℕ → ℕ → ℕ → List ItemId → List ItemId → TxnDecl
declared prio period steps reads writes =
    record { prio = prio; period = period; offset = 0; deadline = period; steps = steps; quiet = 0; reads = reads; writes = writes }

-- the transaction with its first release at this tick
abbrev pub released_from : ℕ → TxnDecl → TxnDecl
released_from tick txn = record txn { offset = tick }

-- the tick of a periodic release, counted from 0: the first is at the offset, each next one a period later
abbrev pub periodic_release : TxnDecl → ℕ → ℕ
periodic_release txn k = txn.offset + k * txn.period

-- what stands for a transaction that the set does not have: it has the priority 0 and no item
abbrev pub no_txn : TxnDecl
no_txn = declared 0 0 0 [] []

-- the declaration of a transaction
abbrev pub txn_of : Set → ℕ → TxnDecl
txn_of set tx = slice_index_or set.txns tx no_txn

-- whether a list of items has this one
abbrev pub names_item : List ItemId → ℕ → Bool
names_item items item = list_any (λ i. i.0 == item) items

-- whether a transaction may read an item, or write it
abbrev pub may_read : TxnDecl → ℕ → Bool
may_read txn item = names_item txn.reads item

abbrev pub may_write : TxnDecl → ℕ → Bool
may_write txn item = names_item txn.writes item

-- the priority and the times of a transaction are within their ranges (the time ranges)
pub record HasGoodTimes (txn : TxnDecl) : Type 0 where
  pub prio : (1 ≤ txn.prio) × (txn.prio ≤ 1000)
  pub steps : (1 ≤ txn.steps) × (txn.steps ≤ 10000)
  pub period : (1 ≤ txn.period) × (txn.period ≤ 2 ^ 30)
  pub deadline : (1 ≤ txn.deadline) × (txn.deadline ≤ txn.period)
  pub offset : txn.offset ≤ txn.period
  pub quiet : txn.quiet < txn.steps

-- the items stand in rising order without repeats, and are items of the set
pub record AreItemsOf (set : Set) (items : List ItemId) : Type 0 where
  pub rising : AllPairs (λ a b. a.0 < b.0) items
  pub in_range : All (λ i. i.0 < length set.items) items

-- the one transaction that may write an item (the single-writer rule)
pub record IsTheWriter (set : Set) (item tx : ℕ) : Type 0 where
  pub in_range : tx < length set.txns
  pub writes : IsTrue (may_write (txn_of set tx) item)
  pub alone : (other : ℕ) → IsTrue (may_write (txn_of set other) item) → other ≡ tx

-- a derived item depends on each sensor and derived item that its writer reads
pub record DependsOn (set : Set) (item parent : ℕ) : Type 0 where
  pub derived : IsTrue (is_derived set.items item)
  pub dated : IsTrue (is_dated set.items parent)
  pub writer : ℕ
  pub writes : IsTrue (may_write (txn_of set writer) item)
  pub reads : IsTrue (may_read (txn_of set writer) parent)

-- a walk of n dependencies from one item to another
abbrev pub Walk : Set → ℕ → ℕ → ℕ → Type 0
Walk set from to zero = from ≡ to
Walk set from to (suc n) = (mid : ℕ) × DependsOn set from mid × Walk set mid to n

-- what a compiled set meets: the limits, the ranges, distinct priorities, single writers, acyclic derivation, and relative sets
-- of two or more sensor or derived items
pub record IsCompiled (set : Set) : Type 0 where
  pub few_items : length set.items ≤ 256
  pub few_txns : length set.txns ≤ 64
  pub few_together : length set.together ≤ 64
  pub times : All HasGoodTimes set.txns
  pub prios : AllPairs (λ a b. a.prio ≢ b.prio) set.txns
  pub reads : All (λ t. AreItemsOf set t.reads) set.txns
  pub writes : All (λ t. AreItemsOf set t.writes) set.txns
  pub written : (item : ℕ) → IsTrue (is_dated set.items item) → (tx : ℕ) × IsTheWriter set item tx
  pub acyclic : (item n : ℕ) → ¬ Walk set item item (suc n)
  pub together : All (λ g. AreItemsOf set g.items) set.together
  pub together_size : All (λ g. 2 ≤ length g.items) set.together
  pub together_dated : All (λ g. All (λ i. IsTrue (is_dated set.items i.0)) g.items) set.together
