use Rattle.std.proofs.Common.{None, sym, refl, subst}
use Rattle.board.specs.declared.replies.StepReply.{StepReply}
use Rattle.board.specs.Histories.{step_entry}
use Rattle.shared_plant.specs.Answers.{with_own}
use Rattle.txn_threads.specs.Scripts.{job_of}
use Rattle.txn_threads.specs.Tasks.{Tied}
use Rattle.txn_threads.proofs.Scripting.{tied_done, tied_default}
use Rattle.txn_threads.proofs.task.Task.answered.Goals as goal

pub returns-then-is_some-clause-tied : goal.returns-then-is_some-clause-tied
returns-then-is_some-clause-tied g c = λ tx mine op now history k.
    subst (λ (r : StepReply). Tied g.Y.Body.gives g.Y.Body.stands tx (with_own mine history (step_entry now (job_of tx c.args.self.now.serial) op r)) c.go_on.new.self) (sym c.in-Done.is)
    (c.go_on.ensures.tied tx _ (tied_done g.Y.Body.gives g.Y.Body.stands tx mine c.args.self.now (record { body = c.told.new.self; serial = c.args.self.now.serial; op = None; heard = c.args.self.now.heard }) op now _ c.in-Done.outcome c.in-Done.over k refl refl c.told.ensures.more))

pub returns-else-is_some-clause-tied : goal.returns-else-is_some-clause-tied
returns-else-is_some-clause-tied g c = λ tx mine op now history k.
    subst (λ (r : StepReply). Tied g.Y.Body.gives g.Y.Body.stands tx (with_own mine history (step_entry now (job_of tx c.args.self.now.serial) op r)) (record { body = c.told.new.self; serial = c.args.self.now.serial; op = None; heard = c.args.self.now.heard })) (sym c.in-Done.is)
    (tied_done g.Y.Body.gives g.Y.Body.stands tx mine c.args.self.now (record { body = c.told.new.self; serial = c.args.self.now.serial; op = None; heard = c.args.self.now.heard }) op now _ c.in-Done.outcome c.in-Done.over k refl refl c.told.ensures.more)

pub returns-in-NoJob-clause-tied : goal.returns-in-NoJob-clause-tied
returns-in-NoJob-clause-tied g c = λ tx mine op now history k.
    subst (λ (r : StepReply). Tied g.Y.Body.gives g.Y.Body.stands tx (with_own mine history (step_entry now (job_of tx c.args.self.now.serial) op r)) c.catch_up.new.self) (sym c.in-NoJob.is)
    (c.catch_up.ensures.tied tx mine k)

pub returns-in_default : goal.returns-in_default
returns-in_default g c = record {
  same = refl;
  heard = refl;
  serial = λ on. refl;
  tied = λ tx mine op now history k. tied_default g.Y.Body.gives g.Y.Body.stands tx mine c.args.self.now op now history c.args.reply.now (λ o v e. c.in_default.not-Done o v e) k;
}
