use Rattle.scale_margin.proofs.Percents.{judged_by_steps}
use Rattle.scale_margin.proofs.judged_by_steps.Goals as goal

pub returns : goal.returns
returns c = judged_by_steps
