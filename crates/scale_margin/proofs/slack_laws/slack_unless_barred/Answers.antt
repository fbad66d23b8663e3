use Rattle.scale_margin.proofs.Counts.{slack_unless_barred}
use Rattle.scale_margin.proofs.slack_laws.slack_unless_barred.Goals as goal

pub returns : goal.returns
returns c = slack_unless_barred
