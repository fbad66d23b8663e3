use Rattle.update_rates.proofs.Planned.{admit-memory}
use Rattle.update_rates.proofs.planning.admit_memory.Goals as goal

pub unreachable-requires : goal.unreachable-requires
unreachable-requires c = admit-memory c.args.error c.requires c.in_default.not-OutOfMemory
