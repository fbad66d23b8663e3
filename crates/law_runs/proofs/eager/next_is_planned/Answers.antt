use Rattle.law_runs.proofs.Open.{next_planned, next_given}
use Rattle.law_runs.proofs.eager.next_is_planned.Goals as goal

pub returns-clause-planned : goal.returns-clause-planned
returns-clause-planned c = next_planned

pub returns-clause-given : goal.returns-clause-given
returns-clause-given c = next_given
