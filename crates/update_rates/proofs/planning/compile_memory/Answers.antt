use Rattle.update_rates.proofs.Planned.{compile-memory}
use Rattle.update_rates.proofs.planning.compile_memory.Goals as goal

pub unreachable-requires : goal.unreachable-requires
unreachable-requires c = compile-memory c.args.error c.requires c.in_default.not-OutOfMemory
