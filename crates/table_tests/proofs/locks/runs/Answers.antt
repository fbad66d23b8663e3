use Rattle.std.proofs.Common.{length, ap, ◌∙◌}
use Rattle.table_tests.proofs.locks.runs.Goals as goal

pub loop-row-preserved : goal.loop-row-preserved
loop-row-preserved g c = (ap length c.holds.ensures.prios ∙ c.loop-row.invariant.0, ap length c.holds.ensures.ceilings ∙ c.loop-row.invariant.1)
