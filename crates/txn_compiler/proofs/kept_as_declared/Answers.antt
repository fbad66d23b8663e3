use Rattle.txn_compiler.proofs.Keeping.{kept-as-declared}
use Rattle.txn_compiler.proofs.kept_as_declared.Goals as goal

pub returns : goal.returns
returns c = kept-as-declared
