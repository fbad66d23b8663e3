use Rattle.set_admission.proofs.Admitted.{decided}
use Rattle.command_replies.proofs.sets.admitted.Goals as goal

pub returns-in-Ok-clause-passed : goal.returns-in-Ok-clause-passed
returns-in-Ok-clause-passed c = (decided _ c.is_compiled.ensures).by_rule.1 c.in-Ok.ensures.admitted
