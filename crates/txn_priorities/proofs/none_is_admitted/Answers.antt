use Rattle.txn_priorities.proofs.Admitted.{none-is-admitted}
use Rattle.txn_priorities.proofs.none_is_admitted.Goals as goal

pub returns : goal.returns
returns c = λ set prios none ok admitted. none-is-admitted set prios none ok admitted
