use Rattle.law_runs.proofs.Fits.{scenario_room, plans_next}
use Rattle.law_runs.proofs.eager.scenario_plans_next.Goals as goal

pub returns-clause-room : goal.returns-clause-room
returns-clause-room c = scenario_room

pub returns-clause-next : goal.returns-clause-next
returns-clause-next c = plans_next
