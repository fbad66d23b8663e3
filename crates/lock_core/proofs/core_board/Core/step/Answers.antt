use Rattle.lock_core.proofs.Lawful.{core_step}
use Rattle.lock_core.proofs.core_board.Core.step.Goals as goal

pub returns-clause-lawful : goal.returns-clause-lawful
returns-clause-lawful c = core_step c.self.inside.set c.self.inside.journal _ c.self.inside.tables _ _ c.args.job c.args.op c.step.result c.self.view_is c.step.ensures.fixed.1 c.step.ensures.refused c.step.ensures.call
