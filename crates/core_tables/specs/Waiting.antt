-- When a pending job may wait on another: what the protocol gives where its operation is refused.
use Rattle.std.specs.Prelude.{◌≡◌, ◌≢◌, ℕ, List, Option, None, Some}
use Rattle.rt_base.specs.declared.ids.JobId.{JobId}
use Rattle.step_journal.specs.State.{Row, row_of}

-- Both are pending, neither waits, they are two, and nobody waits on the first.
pub record MayWait (rows : List (Option Row)) (tx : ℕ) (on : JobId) : Type 0 where
  pub waiter : Row
  pub pending : row_of rows tx ≡ Some waiter
  pub free : waiter.waits_on ≡ None
  pub blocker : Row
  pub here : row_of rows on.tx.0 ≡ Some blocker
  pub is : blocker.job ≡ on
  pub runs : blocker.waits_on ≡ None
  pub differ : tx ≢ on.tx.0
  pub no_waiters : (n : ℕ) (row : Row) (j : JobId) → row_of rows n ≡ Some row → row.waits_on ≡ Some j → j.tx.0 ≢ tx
