use Rattle.std.proofs.Common.{sym}
use Rattle.set_admission.proofs.Admitted.{decided}
use Rattle.scale_margin.proofs.slack_halving.why_refused.Goals as goal

pub returns-in-Ok : goal.returns-in-Ok
returns-in-Ok c = sym ((decided _ c.is_compiled.ensures).by_rule.1 c.in-Ok.ensures.admitted)
