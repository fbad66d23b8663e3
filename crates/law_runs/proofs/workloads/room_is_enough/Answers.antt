use Rattle.law_runs.proofs.Accepted.{room_enough}
use Rattle.law_runs.proofs.workloads.room_is_enough.Goals as goal

pub returns : goal.returns
returns c = room_enough
