use Rattle.std.proofs.Common.{length, ap, ◌∙◌}
use Rattle.table_tests.proofs.waits.two_wait.Goals as goal

pub loop-row-preserved : goal.loop-row-preserved
loop-row-preserved g c = record { size = ap length c.holds.ensures.prios ∙ c.loop-row.invariant.size; beyond = c.holds.ensures.beyond }
