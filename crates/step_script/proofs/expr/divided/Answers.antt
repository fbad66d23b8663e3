use Rattle.std.proofs.Common.{ap, of_z, w64}
use Rattle.step_script.proofs.Quotients.{divides}
use Rattle.step_script.proofs.expr.divided.Goals as goal

pub returns-else-b-eqminus1 : goal.returns-else-b-eqminus1
returns-else-b-eqminus1 c =
    divides _ _ c.ranges.a c.ranges.b (λ e. c.if-b-eq0.false (ap (of_z w64) e))
    (λ e. c.if-b-eqminus1.false (ap (of_z w64) e))
