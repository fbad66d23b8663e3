use Rattle.std.proofs.Common.{◌≡◌, ℕ, ◌<◌, true}
use Rattle.rt_base.specs.Ranks.{has_rank}
use Rattle.table_tests.proofs.waits.ranks_of.Given as goal

abbrev pub invariant-loop-tx : goal.invariant-loop-tx
invariant-loop-tx l = (rank : ℕ) → has_rank l.ranks rank ≡ true → rank < 3
