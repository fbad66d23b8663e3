-- The deadlines of the pending rows: release and relative deadline.
use Rattle.std.specs.Prelude.{◌≡◌, ℕ, ◌+◌, ◌≤◌, List, Option, Some, slice_index_or}
use Rattle.step_journal.specs.State.{Row, row_of}

-- by the relative deadlines of the transactions
abbrev pub deadline_of : List ℕ → Row → ℕ
deadline_of deadlines row = row.release + slice_index_or deadlines row.job.tx.0 0

-- the least deadline of the pending rows
pub record IsLeastDeadline (deadlines : List ℕ) (rows : List (Option Row)) (tick : ℕ) : Type 0 where
  pub tx : ℕ
  pub row : Row
  pub here : row_of rows tx ≡ Some row
  pub is : deadline_of deadlines row ≡ tick
  pub least : (n : ℕ) (other : Row) → row_of rows n ≡ Some other → tick ≤ deadline_of deadlines other
