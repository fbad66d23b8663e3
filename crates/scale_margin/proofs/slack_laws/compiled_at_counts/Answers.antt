use Rattle.scale_margin.proofs.Counts.{compiled_at_counts}
use Rattle.scale_margin.proofs.slack_laws.compiled_at_counts.Goals as goal

pub returns : goal.returns
returns c = compiled_at_counts
