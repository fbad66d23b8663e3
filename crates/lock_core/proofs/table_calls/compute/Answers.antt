use Rattle.std.proofs.Common.{sym}
use Rattle.lock_core.proofs.Called.{runs_compute}
use Rattle.lock_core.proofs.table_calls.compute.Goals as goal

pub counted-requires-clause-granted : goal.counted-requires-clause-granted
counted-requires-clause-granted c = λ history h. runs_compute _ _ c.args.job (sym (c.if-not-runs.ensures _ _ h.are))
