use Rattle.law_histories.proofs.SharedReaders.{holds}
use Rattle.law_histories.proofs.worked.shared_readers_holds.Goals as goal

pub returns : goal.returns
returns c = holds
