use Rattle.std.proofs.Common.{ℕ, ◌<◌, ◌≤◌, All, slice_index_or}
use Rattle.txn_threads.specs.declared.member.Member.{Member}
use Rattle.txn_threads.specs.declared.member.Worker.{Worker}
use Rattle.txn_threads.proofs.run.all_done.Given as goal

abbrev pub invariant-loop-i : goal.invariant-loop-i
invariant-loop-i g l = (j : ℕ) (d : Worker g.row.B.Denot g.row.Y.Denot) → j < l.i → All (λ (m : Member g.row.B.Denot g.row.Y.Denot). m.jobs ≤ m.ended) (slice_index_or l.workers j d).members.items
