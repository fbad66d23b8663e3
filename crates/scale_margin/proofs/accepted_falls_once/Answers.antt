use Rattle.scale_margin.proofs.Percents.{accepted_falls_once}
use Rattle.scale_margin.proofs.accepted_falls_once.Goals as goal

pub returns : goal.returns
returns c = accepted_falls_once
