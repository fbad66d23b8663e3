use Rattle.std.proofs.Common.{refl}
use Rattle.txn_threads.proofs.Scripting.{tied_fresh}
use Rattle.txn_threads.proofs.task.Task.clear.Goals as goal

pub returns-clause-tied : goal.returns-clause-tied
returns-clause-tied g c = λ tx mine none. tied_fresh g.Y.Body.gives g.Y.Body.stands tx mine _ none refl c.begin.ensures.begun
