use Rattle.std.proofs.Common.{None, refl, ◌∙◌}
use Rattle.txn_threads.proofs.Scripting.{tied_done}
use Rattle.txn_threads.proofs.task.TaskAsker.ended.Goals as goal

pub returns : goal.returns
returns g c = λ op end asked. record {
  same = c.go_on.ensures.same ∙ c.told.ensures.same;
  serial = λ on. absurd on;
  heard = λ none. c.go_on.ensures.heard ∙ none;
  tied = λ tx mine history now k. c.go_on.ensures.tied tx _ (tied_done g.Y.Body.gives g.Y.Body.stands tx mine c.args.self.now (record { body = c.told.new.self; serial = c.args.self.now.serial; op = None; heard = c.args.self.now.heard }) op now _ c.args.outcome _ k refl refl c.told.ensures.more);
}
