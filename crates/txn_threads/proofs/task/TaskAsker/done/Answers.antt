use Rattle.std.proofs.Common.{None, refl}
use Rattle.txn_threads.proofs.Scripting.{tied_done}
use Rattle.txn_threads.proofs.task.TaskAsker.done.Goals as goal

pub returns : goal.returns
returns g c = λ op asked. record {
  same = c.told.ensures.same;
  serial = λ on. refl;
  heard = λ none. none;
  tied = λ tx mine history now k. tied_done g.Y.Body.gives g.Y.Body.stands tx mine c.args.self.now _ op now _ c.args.outcome None k refl refl c.told.ensures.more;
}
