use Rattle.law_times.proofs.Exchanging.{exchange}
use Rattle.law_times.proofs.priorities.exchange.Goals as goal

pub returns : goal.returns
returns c = exchange
