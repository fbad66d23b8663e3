use Rattle.txn_priorities.proofs.Compiling.{compiled-with-prios}
use Rattle.txn_priorities.proofs.compiled_with_priorities.Goals as goal

pub returns : goal.returns
returns c = λ set prios ok is range. compiled-with-prios set prios ok is range
