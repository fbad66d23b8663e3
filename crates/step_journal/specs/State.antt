-- The state of the core. There is no lock table and no inherited priority in it: both follow from the rows.
use Rattle.std.specs.Prelude.{ℕ, ◌==◌, ◌&&◌, Bool, List, [], map, Option, None, slice_index_or}
use Rattle.std.specs.List.{filter_map}
use Rattle.rt_base.specs.declared.ids.JobId.{JobId}
use Rattle.rt_base.specs.declared.release.Release.{Release}
use Rattle.rt_base.specs.declared.release.Plans.{Plans}
use Rattle.step_journal.specs.declared.entry.EndedJob.{EndedJob}
use Rattle.txn_set.specs.Set.{Set, txn_of}
use Rattle.item_model.specs.Work.{Work, no_work}
use Rattle.item_model.specs.declared.stored.Stored.{Stored}

-- a pending job
pub record Row : Type 0 where
  pub job : JobId
  pub release : ℕ
  pub used : ℕ
  pub work : Work
  pub waits_on : Option JobId

-- plans and rows go by the number of the transaction: a transaction has at most one pending job
pub record State : Type 0 where
  pub now : ℕ
  pub items : List Stored
  pub plans : List Plans
  pub planned : List Release
  pub rows : List (Option Row)
  pub ended : List EndedJob

unfoldable pub opening : Set → State
opening set = record {
  now = 0;
  items = map (λ d. record { value = d.initial; stamp = 0 }) set.items;
  plans = map (λ t. record { number = 0; last = 0 }) set.txns;
  planned = [];
  rows = map (λ t. None) set.txns;
  ended = [];
}

abbrev pub same_job : JobId → JobId → Bool
same_job a b = (a.tx.0 == b.tx.0) && (a.serial == b.serial)

abbrev pub new_row : JobId → ℕ → Row
new_row job release = record { job = job; release = release; used = 0; work = no_work; waits_on = None }

-- the pending job of a transaction
abbrev pub row_of : List (Option Row) → ℕ → Option Row
row_of rows tx = slice_index_or rows tx None

-- the pending rows alone
abbrev pub pending : List (Option Row) → List Row
pending rows = filter_map (λ r. r) rows

-- the assigned priority of a job, and of a row's job
abbrev pub prio_of : Set → JobId → ℕ
prio_of set job = (txn_of set job.tx.0).prio

abbrev pub prio : Set → Row → ℕ
prio set row = prio_of set row.job
