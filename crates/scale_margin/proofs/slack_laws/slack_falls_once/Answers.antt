use Rattle.scale_margin.proofs.Counts.{slack_falls_once}
use Rattle.scale_margin.proofs.slack_laws.slack_falls_once.Goals as goal

pub returns : goal.returns
returns c = slack_falls_once
