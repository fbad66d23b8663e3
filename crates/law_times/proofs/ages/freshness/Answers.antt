use Rattle.law_times.proofs.DeadlinesAll.{in_time}
use Rattle.law_times.specs.Ages.{age_bound}
use Rattle.law_times.proofs.Levels.{age_bounds}
use Rattle.law_times.proofs.WithinAge.{freshness}
use Rattle.law_times.proofs.ages.freshness.Goals as goal

pub returns : goal.returns
returns c set entries ok admitted legal steady =
    freshness set admitted.response (age_bound set admitted.response) entries ok (age_bounds set admitted.response ok).bounds admitted.ages legal
    (λ tx lt. in_time set entries tx (admitted.response tx) ok legal (admitted.responses tx lt).holds)
    steady
