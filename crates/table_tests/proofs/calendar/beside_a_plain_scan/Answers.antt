use Rattle.std.proofs.Common.{length, ap, ◌∙◌}
use Rattle.table_tests.proofs.calendar.beside_a_plain_scan.Goals as goal

pub loop-call-preserved : goal.loop-call-preserved
loop-call-preserved g c = ap length c.alike-same.ensures ∙ c.loop-call.invariant
