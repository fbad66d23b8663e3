use Rattle.txn_compiler.proofs.Verdict.{compiled-unless-refused}
use Rattle.txn_compiler.proofs.compiled_unless_refused.Goals as goal

pub returns : goal.returns
returns c = compiled-unless-refused
