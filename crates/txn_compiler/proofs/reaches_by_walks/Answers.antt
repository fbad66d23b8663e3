use Rattle.txn_compiler.proofs.Derivation as derivation
use Rattle.txn_compiler.proofs.reaches_by_walks.Goals as goal

pub returns : goal.returns
returns c = derivation.reaches-by-walks
