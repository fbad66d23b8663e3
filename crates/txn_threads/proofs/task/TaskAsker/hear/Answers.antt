use Rattle.std.proofs.Common.{◌∙◌}
use Rattle.txn_threads.proofs.Stepping.{tied_asked}
use Rattle.txn_threads.proofs.task.TaskAsker.hear.Goals as goal

pub returns : goal.returns
returns g c = let e = c.answered.ensures in record {
  same = e.same;
  serial = e.serial;
  heard = λ none. e.heard ∙ c.kept_of-self.ensures;
  tied = λ tx mine history now k. e.tied tx mine c.args.op now history (tied_asked g.Y.Body.gives g.Y.Body.stands tx mine c.args.self.now c.args.op c.kept_of-self.result k (c.requires tx mine k));
}
