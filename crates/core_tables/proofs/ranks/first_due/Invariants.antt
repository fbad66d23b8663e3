use Rattle.std.proofs.Common.{◌≡◌, ℕ, true, false, length}
use Rattle.rt_base.specs.Ranks.{has_rank}
use Rattle.core_tables.specs.PendingTables.{NotDue}
use Rattle.rt_base.proofs.Ranks.{count_ranks}
use Rattle.core_tables.proofs.ranks.first_due.Given as goal

abbrev pub invariant-loop-rank : goal.invariant-loop-rank
invariant-loop-rank g l = record {
  pending : (rank : ℕ) → has_rank l.left rank ≡ true → has_rank l.fn.ranks rank ≡ true;
  passed : (rank : ℕ) → has_rank l.left rank ≡ false → NotDue l.heads l.deadlines l.waits.order l.fn.tick rank;
}

abbrev pub decreases-loop-rank : goal.decreases-loop-rank
decreases-loop-rank g l = count_ranks (length l.heads) l.left
