use Rattle.std.proofs.Common.{ℕ, ◌<◌, ◌≤◌, slice_index_or}
use Rattle.txn_threads.specs.declared.member.Member.{Member}
use Rattle.txn_threads.proofs.run.are_done.Given as goal

abbrev pub invariant-loop-i : goal.invariant-loop-i
invariant-loop-i g l = (j : ℕ) (d : Member g.row.B.Denot g.row.Y.Denot) → j < l.i → (slice_index_or l.members j d).jobs ≤ (slice_index_or l.members j d).ended
