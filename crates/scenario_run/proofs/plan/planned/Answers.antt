use Rattle.step_script.specs.Shown.{shown}
use Rattle.command_replies.specs.Accepted.{IsAdmittedOf}
use Rattle.command_replies.proofs.Replying.{taken, refused_by}
use Rattle.scenario_run.proofs.Refusing.{turned_away}
use Rattle.scenario_run.proofs.Started.{tasks_of}
use Rattle.scenario_run.proofs.plan.planned.Goals as goal

pub returns-in-Err-clause-refused : goal.returns-in-Err-clause-refused
returns-in-Err-clause-refused c = turned_away (shown c.args.scenario) _ _ (refused_by _ _ _ c.in-Err.is c.in_ok-accepted.ensures.refused)
