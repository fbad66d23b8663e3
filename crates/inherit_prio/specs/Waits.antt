-- Who waits on whom, and the ranks: the positions in falling priority.
use Rattle.std.specs.Prelude.{◌≡◌, ℕ, zero, suc, ◌<◌, ◌≤◌, ◌==◌, max, Bool, false, if◌then◌else◌, List, length, slice_index_or, Option, None, Some}
use Rattle.rt_base.specs.declared.ids.TxId.{TxId}
use Rattle.rt_base.specs.declared.rank_set.RankSet.{RankSet}
use Rattle.rt_base.specs.Ranks.{has_rank}

-- by transaction: the priorities, and on whom it waits. By rank: the transactions
pub record Waiting : Type 0 where
  pub prios : List ℕ
  pub order : List TxId
  pub on : List (Option TxId)

abbrev pub prio_of : List ℕ → ℕ → ℕ
prio_of prios tx = slice_index_or prios tx 0

-- the transaction with a rank
abbrev pub tx_of : List TxId → ℕ → ℕ
tx_of order rank = (slice_index_or order rank (record { 0 = 0 })).0

-- on whom a transaction waits
abbrev pub on_of : List (Option TxId) → ℕ → Option TxId
on_of on tx = slice_index_or on tx None

abbrev pub is_tx : Option TxId → ℕ → Bool
is_tx None tx = false
is_tx (Some other) tx = other.0 == tx

-- whether a transaction waits on this one
abbrev pub waits : List (Option TxId) → ℕ → ℕ → Bool
waits on waiter tx = is_tx (on_of on waiter) tx

abbrev pub highest_waiter : Waiting → ℕ → ℕ → ℕ
highest_waiter w tx zero = 0
highest_waiter w tx (suc n) = max (if waits w.on n tx then prio_of w.prios n else 0) (highest_waiter w tx n)

-- the greatest of its own priority and those of the transactions that wait on it
unfoldable pub effective_of : Waiting → ℕ → ℕ
effective_of w tx = max (prio_of w.prios tx) (highest_waiter w tx (length w.prios))

-- the order is that of falling priority, and has each transaction
pub record IsOrder (prios : List ℕ) (order : List TxId) : Type 0 where
  pub size : length order ≡ length prios
  pub in_range : (rank : ℕ) → rank < length prios → tx_of order rank < length prios
  pub falling : (i j : ℕ) → i < j → j < length prios → prio_of prios (tx_of order j) < prio_of prios (tx_of order i)
  pub all : (tx : ℕ) → tx < length prios → (rank : ℕ) × (rank < length prios) × (tx_of order rank ≡ tx)

-- what a transaction waits on after another waits on nobody and nobody on it
abbrev pub unless_on : ℕ → Option TxId → Option TxId
unless_on tx None = None
unless_on tx (Some other) = if other.0 == tx then None else Some other

abbrev pub freed_at : Waiting → ℕ → ℕ → Option TxId
freed_at w tx t = if t == tx then None else unless_on tx (on_of w.on t)

-- only who waits changes, to what f says
pub record Changes (old new : Waiting) (f : ℕ → Option TxId) : Type 0 where
  pub prios : new.prios ≡ old.prios
  pub order : new.order ≡ old.order
  pub on : (t : ℕ) → on_of new.on t ≡ f t

abbrev pub no_ranks : RankSet
no_ranks = record { 0 = 0 }

abbrev pub ranks_at : List RankSet → ℕ → RankSet
ranks_at waiters tx = slice_index_or waiters tx no_ranks

-- the order has each of its transactions at one rank
pub record IsRanking (order : List TxId) : Type 0 where
  pub in_range : (rank : ℕ) → rank < length order → tx_of order rank < length order
  pub one_rank : (i j : ℕ) → i < length order → j < length order → tx_of order i ≡ tx_of order j → i ≡ j
  pub all : (tx : ℕ) → tx < length order → (rank : ℕ) × (rank < length order) × (tx_of order rank ≡ tx)

-- the ranks of those that wait on a transaction
pub record AreRanksOn (on : List (Option TxId)) (order : List TxId) (tx : ℕ) (ranks : RankSet) : Type 0 where
  pub within : (rank : ℕ) → rank < length order → has_rank ranks rank ≡ waits on (tx_of order rank) tx
  pub beyond : (rank : ℕ) → length order ≤ rank → has_rank ranks rank ≡ false

-- no chain of waits: that on which another waits waits on nobody
pub record IsShallow (n : ℕ) (on : List (Option TxId)) : Type 0 where
  pub in_range : (t : ℕ) (u : TxId) → on_of on t ≡ Some u → u.0 < n
  pub ends : (t : ℕ) (u : TxId) → on_of on t ≡ Some u → on_of on u.0 ≡ None

-- the waiters of a transaction, as a set of ranks
pub record AreWaiters (w : Waiting) (waiters : List RankSet) : Type 0 where
  pub size : length waiters ≡ length w.prios
  pub within : (t rank : ℕ) → t < length w.prios → rank < length w.prios → has_rank (ranks_at waiters t) rank ≡ waits w.on (tx_of w.order rank) t
  pub beyond : (t rank : ℕ) → t < length w.prios → length w.prios ≤ rank → has_rank (ranks_at waiters t) rank ≡ false

-- what the table keeps
pub record IsTable (w : Waiting) (ranks : List ℕ) (waiters : List RankSet) : Type 0 where
  pub few : length w.prios ≤ 64
  pub order : IsOrder w.prios w.order
  pub size : length w.on ≡ length w.prios
  pub ranks_size : length ranks ≡ length w.prios
  pub ranked : (t : ℕ) → t < length w.prios → (slice_index_or ranks t 0 < length w.prios) × (tx_of w.order (slice_index_or ranks t 0) ≡ t)
  pub waiting : AreWaiters w waiters
  pub shallow : IsShallow (length w.prios) w.on
