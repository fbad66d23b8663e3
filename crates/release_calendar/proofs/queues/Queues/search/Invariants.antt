use Rattle.std.proofs.Common.{ℕ, ◌<◌}
use Rattle.release_calendar.specs.Queues.{NoneAt, queue_of}
use Rattle.release_calendar.proofs.queues.Queues.search.Given as goal

abbrev pub invariant-loop-tx : goal.invariant-loop-tx
invariant-loop-tx l = (k : ℕ) → k < l.tx → NoneAt l.tick (queue_of l.self.queues k)
