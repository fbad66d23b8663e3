use Rattle.std.proofs.Common.{pos, arith}
use Rattle.rt_base.specs.declared.operation.Op.TheVariants.{Write}
use Rattle.table_tests.specs.Trio.{x, last_rows}
use Rattle.table_tests.proofs.TrioSteps.{within, has_item}
use Rattle.table_tests.proofs.pending.shared_readers.Goals as goal

pub lock_refusal-requires-2-clause-tx : goal.lock_refusal-requires-2-clause-tx
lock_refusal-requires-2-clause-tx g c = within c.both_read.new.pending last_rows 2 c.both_read.ensures (omega arith)

pub lock_refusal-requires-2-clause-item : goal.lock_refusal-requires-2-clause-item
lock_refusal-requires-2-clause-item g c = has_item c.both_read.new.pending last_rows (Write x (pos 1)) c.both_read.ensures (omega arith)
