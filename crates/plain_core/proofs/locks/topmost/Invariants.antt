use Rattle.std.proofs.Common.{◌≡◌, drop}
use Rattle.plain_core.specs.Locks.{topmost_by}
use Rattle.plain_core.proofs.locks.topmost.Given as goal

abbrev pub invariant-loop-i : goal.invariant-loop-i
invariant-loop-i l = l.best ≡ topmost_by l.txns l.tx.0 (drop l.i l.slots)
