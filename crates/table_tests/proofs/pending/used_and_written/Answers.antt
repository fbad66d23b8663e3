use Rattle.std.proofs.Common.{arith}
use Rattle.table_tests.specs.Trio.{last_rows}
use Rattle.table_tests.proofs.TrioSteps.{within}
use Rattle.table_tests.proofs.pending.used_and_written.Goals as goal

pub work-requires : goal.work-requires
work-requires c = within c.args.pending.now last_rows 0 c.requires (omega arith)

pub head-requires : goal.head-requires
head-requires c = within c.args.pending.now last_rows 0 c.requires (omega arith)
