use Rattle.std.proofs.Common.{◌≡◌, ℕ, ◌<◌, length, slice_index_or}
use Rattle.txn_threads.specs.declared.member.Worker.{Worker}
use Rattle.txn_threads.proofs.run.has_members.Given as goal

abbrev pub invariant-loop-i : goal.invariant-loop-i
invariant-loop-i g l = (j : ℕ) (d : Worker g.row.B.Denot g.row.Y.Denot) → j < l.i → length (slice_index_or l.workers j d).members.items ≡ 0
