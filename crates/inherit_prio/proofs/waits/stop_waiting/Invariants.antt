use Rattle.std.proofs.Common.{◌≡◌, ℕ, length}
use Rattle.inherit_prio.specs.Waits.{on_of, unless_on, AreRanksOn}
use Rattle.rt_base.proofs.Ranks.{count_ranks}
use Rattle.inherit_prio.proofs.waits.stop_waiting.Given as goal

abbrev pub invariant-loop-rank : goal.invariant-loop-rank
invariant-loop-rank g l = record {
  size : length l.on.items ≡ length l.initial.on.items;
  waiting : AreRanksOn l.on.items l.ranking.order l.fn.tx.0 l.left;
  remains : (t : ℕ) → unless_on l.fn.tx.0 (on_of l.on.items t) ≡ unless_on l.fn.tx.0 (on_of l.initial.on.items t);
}

abbrev pub decreases-loop-rank : goal.decreases-loop-rank
decreases-loop-rank g l = count_ranks (length l.ranking.order) l.left
