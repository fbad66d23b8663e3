use Rattle.std.proofs.Common.{length, ap, ◌∙◌}
use Rattle.table_tests.proofs.locks.beside_a_plain_scan.Goals as goal

pub alike-requires-clause-txns : goal.alike-requires-clause-txns
alike-requires-clause-txns g c = ap length c.act.ensures.prios ∙ c.loop-call.invariant.0

pub alike-requires-clause-items : goal.alike-requires-clause-items
alike-requires-clause-items g c = ap length c.act.ensures.ceilings ∙ c.loop-call.invariant.1

pub loop-call-preserved : goal.loop-call-preserved
loop-call-preserved g c = (ap length c.act.ensures.prios ∙ c.loop-call.invariant.0, ap length c.act.ensures.ceilings ∙ c.loop-call.invariant.1)
