-- What a list of declarations says of a job.
use Rattle.std.specs.Prelude.{ℕ, List, slice_index_or}
use Rattle.rt_base.specs.declared.ids.JobId.{JobId}
use Rattle.txn_set.specs.declared.decl.TxnDecl.{TxnDecl}
use Rattle.txn_set.specs.Set.{no_txn}

abbrev pub prio_by : List TxnDecl → JobId → ℕ
prio_by txns job = (slice_index_or txns job.tx.0 no_txn).prio

abbrev pub deadline_by : List TxnDecl → JobId → ℕ
deadline_by txns job = (slice_index_or txns job.tx.0 no_txn).deadline
