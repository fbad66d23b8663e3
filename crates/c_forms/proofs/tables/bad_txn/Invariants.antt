use Rattle.std.proofs.Common.{ℕ, ◌<◌, get_or}
use Rattle.c_forms.specs.declared.tables.TxnRow.{TxnRow}
use Rattle.c_forms.specs.Rows.{TxnFits}
use Rattle.c_forms.proofs.tables.bad_txn.Given as goal

abbrev pub invariant-loop-place : goal.invariant-loop-place
invariant-loop-place l = (k : ℕ) (d : TxnRow) → k < l.place → TxnFits l.count (get_or l.rows k d)
