-- The locks that were added, with the ceilings of the items and the priorities of the transactions.
use Rattle.std.specs.Prelude.{ℕ, zero, suc, ◌+◌, ◌*◌, ◌==◌, max, Bool, true, false, not, ◌&&◌, ◌||◌, List, [], ◌∷◌, length, slice_index_or, Option, ◌<◌, if◌then◌else◌}
use Rattle.std.specs.List.{filter}
use Rattle.std.specs.Option.{option_map}
use Rattle.std.proofs.Common.{le_refl}
use Rattle.rt_base.specs.LockRule.{blocker}
use Rattle.rt_base.specs.declared.operation.Op.{Op}
use Rattle.rt_base.specs.declared.operation.Op.TheVariants.{Read as ReadOf, Write as WriteOf, Compute, Commit, Quit}
use Rattle.ceiling_table.specs.declared.CeilRow.{CeilRow}
use Rattle.ceiling_table.specs.declared.Above.{Above}
use Rattle.ceiling_table.specs.declared.LockKind.{LockKind}
use Rattle.ceiling_table.specs.declared.LockKind.TheVariants.{Free, Read, Write}

-- `locks` has one for each transaction and item, one transaction after another
pub record Locks : Type 0 where
  pub ceilings : List CeilRow
  pub prios : List ℕ
  pub locks : List LockKind

-- the lock of a transaction on an item
abbrev pub lock_at : Locks → ℕ → ℕ → LockKind
lock_at h tx item = slice_index_or h.locks (tx * length h.ceilings + item) Free

abbrev pub prio_of : Locks → ℕ → ℕ
prio_of h tx = slice_index_or h.prios tx 0

abbrev pub no_ceilings : CeilRow
no_ceilings = record { write = 0; absolute = 0; ordered = le_refl 0 }

-- the ceiling of a held lock: the absolute ceiling for a write lock, the write ceiling for a read lock; and 0 where there is none
abbrev pub kind_ceiling : CeilRow → LockKind → ℕ
kind_ceiling row Free = 0
kind_ceiling row Read = row.write
kind_ceiling row Write = row.absolute

abbrev pub is_lock : LockKind → Bool
is_lock Free = false
is_lock other = true

abbrev pub is_write : LockKind → Bool
is_write Write = true
is_write other = false

-- the greatest of f at the numbers below n, and 0 where there is none
abbrev pub greatest_below : ℕ → (ℕ → ℕ) → ℕ
greatest_below zero f = 0
greatest_below (suc n) f = max (f n) (greatest_below n f)

abbrev pub any_below : ℕ → (ℕ → Bool) → Bool
any_below zero f = false
any_below (suc n) f = f n || any_below n f

-- the greatest ceiling of the locks of a transaction, and 0 where it has none
unfoldable pub ceiling_of : Locks → ℕ → ℕ
ceiling_of h tx = greatest_below (length h.ceilings) (λ item. kind_ceiling (slice_index_or h.ceilings item no_ceilings) (lock_at h tx item))

-- whether a transaction has some lock
unfoldable pub is_holder : Locks → ℕ → Bool
is_holder h tx = any_below (length h.ceilings) (λ item. is_lock (lock_at h tx item))

-- the numbers below n, from the greatest
abbrev pub numbers_below : ℕ → List ℕ
numbers_below zero = []
numbers_below (suc n) = n ∷ numbers_below n

-- the other transactions that hold a lock
abbrev pub other_holders : Locks → ℕ → List ℕ
other_holders h tx = filter (λ t. not (t == tx) && is_holder h t) (numbers_below (length h.prios))

abbrev pub above_of : Locks → ℕ → Above
above_of h tx = record { holder = record { 0 = tx }; ceiling = ceiling_of h tx }

-- why a transaction gets no new lock, by the lock rule over the locks of the others
unfoldable pub refusal : Locks → ℕ → Option Above
refusal h tx = option_map (above_of h) (blocker (prio_of h) (ceiling_of h) (prio_of h tx) (other_holders h tx))

-- whether an operation needs a new lock
abbrev pub needs_lock : Locks → ℕ → Op → Bool
needs_lock h tx (ReadOf item) = not (is_lock (lock_at h tx item.0))
needs_lock h tx (WriteOf item value) = not (is_write (lock_at h tx item.0))
needs_lock h tx other = false

-- a lock with a read lock added
abbrev pub with_read : LockKind → LockKind
with_read Write = Write
with_read other = Read

abbrev pub with_lock : Bool → LockKind → LockKind
with_lock true kind = Write
with_lock false kind = with_read kind

-- the locks with one more, and without those of a transaction
abbrev pub locked_at : Locks → ℕ → ℕ → Bool → ℕ → ℕ → LockKind
locked_at h tx item writes t i = if t == tx && i == item then with_lock writes (lock_at h t i) else lock_at h t i

abbrev pub released_at : Locks → ℕ → ℕ → ℕ → LockKind
released_at h tx t i = if t == tx then Free else lock_at h t i

-- the item of an operation is one of so many
abbrev pub HasItem : ℕ → Op → Type 0
HasItem count (ReadOf item) = item.0 < count
HasItem count (WriteOf item value) = item.0 < count
HasItem count Compute = Unit {0}
HasItem count Commit = Unit {0}
HasItem count Quit = Unit {0}
