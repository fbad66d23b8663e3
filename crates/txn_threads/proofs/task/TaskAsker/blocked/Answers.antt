use Rattle.std.proofs.Common.{refl}
use Rattle.txn_threads.proofs.Scripting.{tied_other}
use Rattle.txn_threads.proofs.Stepping.{tied_asked}
use Rattle.txn_threads.proofs.task.TaskAsker.blocked.Goals as goal

pub returns : goal.returns
returns g c = λ by ceiling. record {
  same = refl;
  serial = λ on. absurd on;
  heard = λ none. none;
  tied = λ tx mine history now k. tied_other g.Y.Body.gives g.Y.Body.stands tx mine _ _ (tied_asked g.Y.Body.gives g.Y.Body.stands tx mine c.args.self.now c.args.op c.args.self.now.heard k (c.requires tx mine k)) (λ s. refl);
}
