use Rattle.law_times.proofs.Moving.{no-worse}
use Rattle.law_times.proofs.priorities.up_is_never_worse.Goals as goal

pub returns : goal.returns
returns c = λ set p q tx other ok inside some-p some-q up. no-worse set p q tx other ok inside some-p some-q up
