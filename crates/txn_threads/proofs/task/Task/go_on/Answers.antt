use Rattle.std.proofs.Common.{◌<◌, refl, rules}
use Rattle.txn_threads.proofs.Scripting.{tied_anew}
use Rattle.txn_threads.proofs.task.Task.go_on.Goals as goal

pub returns-in-Some-clause-tied : goal.returns-in-Some-clause-tied
returns-in-Some-clause-tied g c = λ tx mine k.
    let more : c.args.self.now.serial < c.in-Some.serial = search rules in
    tied_anew g.Y.Body.gives g.Y.Body.stands tx mine c.args.self.now _ k more refl c.begin.ensures.begun
