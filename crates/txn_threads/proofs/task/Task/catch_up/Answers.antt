use Rattle.std.proofs.Common.{◌<◌, refl, rules}
use Rattle.txn_threads.proofs.Scripting.{tied_anew}
use Rattle.txn_threads.proofs.task.Task.catch_up.Goals as goal

pub returns-then-self-ended-clause-tied : goal.returns-then-self-ended-clause-tied
returns-then-self-ended-clause-tied g c = λ tx mine k.
    let more : c.args.self.now.serial < c.args.ended = search rules in
    tied_anew g.Y.Body.gives g.Y.Body.stands tx mine c.args.self.now _ k more refl c.begin.ensures.begun
