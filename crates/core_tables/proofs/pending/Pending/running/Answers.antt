use Rattle.std.proofs.Common.{◌≡◌, subst}
use Rattle.std.specs.Option.{option_map}
use Rattle.step_journal.specs.Running.{running}
use Rattle.core_tables.specs.Rows.{PendingSeen, AreFactsOf}
use Rattle.core_tables.proofs.Questions.{runs_is}
use Rattle.core_tables.proofs.pending.Pending.running.Goals as goal

pub returns : goal.returns
returns c set =
    subst (λ (p : PendingSeen). AreFactsOf set p.facts → c.self.inside.runs ≡ option_map (λ r. r.job) (running set p.rows)) c.self.view_is
    (λ f. runs_is _ _ _ _ _ _ _ _ c.self.invariant set f)
