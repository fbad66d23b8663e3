-- Which locks a pending job holds, and who gets a new one: lock need, grant and blocker.
use Rattle.std.specs.Prelude.{ℕ, nat_lt, ◌==◌, Bool, true, false, not, ◌||◌, if◌then◌else◌, List, [], ◌∷◌, ◌++◌, map, Option, slice_get}
use Rattle.std.specs.List.{filter}
use Rattle.std.specs.Option.{option_map}
use Rattle.rt_base.specs.LockRule.{blocker}
use Rattle.rt_base.specs.declared.ids.JobId.{JobId}
use Rattle.rt_base.specs.declared.operation.Op.{Op}
use Rattle.rt_base.specs.declared.operation.Op.TheVariants.{Read, Write}
use Rattle.txn_set.specs.Set.{Set}
use Rattle.txn_set.specs.Ceilings.{greatest, write_ceiling, absolute_ceiling}
use Rattle.item_model.specs.Work.{Work, has_read, has_written}
use Rattle.step_journal.specs.State.{Row, pending, prio}

-- a lock on an item: a write lock, or else a read lock
pub record Lock : Type 0 where
  pub item : ℕ
  pub is_write : Bool

-- a write lock on each item that the job wrote, and a read lock on each that it only read from outside
abbrev pub locks : Work → List Lock
locks work =
    map (λ w. record { item = w.item.0; is_write = true }) work.writes
    ++ map (λ r. record { item = r.item.0; is_write = false }) (filter (λ r. not (has_written work r.item.0)) work.reads)

-- the ceiling of a held lock
abbrev pub lock_ceiling : Set → Lock → ℕ
lock_ceiling set lock = if lock.is_write then absolute_ceiling set lock.item else write_ceiling set lock.item

-- the greatest ceiling of the locks that a job holds, and 0 where it holds none
unfoldable pub ceiling_of : Set → Row → ℕ
ceiling_of set row = greatest (map (lock_ceiling set) (locks row.work))

-- whether an operation needs a new lock
abbrev pub needs_lock : Work → Op → Bool
needs_lock work (Read item) = not (has_read work item.0 || has_written work item.0)
needs_lock work (Write item value) = not (has_written work item.0)
needs_lock work other = false

-- the pending jobs of other transactions
abbrev pub others : List (Option Row) → Row → List Row
others rows row = filter (λ r. not (r.job.tx.0 == row.job.tx.0)) (pending rows)

-- the system ceiling of a job: the greatest ceiling of the locks that other jobs hold
unfoldable pub system_ceiling : Set → List (Option Row) → Row → ℕ
system_ceiling set rows row = greatest (map (ceiling_of set) (others rows row))

-- the rows in falling priority
abbrev pub placed : Set → Row → List Row → List Row
placed set row [] = row ∷ []
placed set row (r ∷ rs) = if nat_lt (prio set r) (prio set row) then row ∷ r ∷ rs else r ∷ placed set row rs

abbrev pub in_falling_priority : Set → List Row → List Row
in_falling_priority set [] = []
in_falling_priority set (r ∷ rs) = placed set r (in_falling_priority set rs)

unfoldable pub highest : Set → List Row → Option Row
highest set rows = slice_get (in_falling_priority set rows) 0

-- why a new lock is refused: the job to wait on, and the ceiling
pub record Above : Type 0 where
  pub holder : JobId
  pub ceiling : ℕ

-- A new lock is granted where the job's priority is above each ceiling of the locks that others hold. Else the greatest of
-- these is the ceiling named, and the job waits on the highest job that holds a lock with it.
unfoldable pub refusal : Set → List (Option Row) → Row → Option Above
refusal set rows row =
    option_map (λ r. record { holder = r.job; ceiling = ceiling_of set r }) (blocker (prio set) (ceiling_of set) (prio set row) (others rows row))
