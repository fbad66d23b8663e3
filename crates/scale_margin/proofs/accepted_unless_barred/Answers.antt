use Rattle.scale_margin.proofs.Percents.{accepted_unless_barred}
use Rattle.scale_margin.proofs.accepted_unless_barred.Goals as goal

pub returns : goal.returns
returns c = accepted_unless_barred
