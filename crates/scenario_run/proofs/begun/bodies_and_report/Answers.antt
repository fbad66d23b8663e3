use Rattle.std.proofs.Common.{subst, ◌∙◌}
use Rattle.txn_set.specs.Set.{Set}
use Rattle.run_report.specs.Judged.{is_admitted}
use Rattle.scenario_run.specs.Begun.{AreBegun}
use Rattle.scenario_run.proofs.Ready.{eager_jobs_few}
use Rattle.scenario_run.proofs.begun.bodies_and_report.Goals as goal

pub jobs-requires-clause-eager : goal.jobs-requires-clause-eager
jobs-requires-clause-eager c = eager_jobs_few _ _ _ _ c.in_ok-bodies.ensures.ready

pub returns-in-Ok : goal.returns-in-Ok
returns-in-Ok c =
    subst (λ (q : Set). AreBegun c.args.names.now (is_admitted c.args.set.now) q c.args.tasks c.in_ok-bodies.bodies c.in-Ok.report) c.set-set.ensures (record {
      scripts = c.in_ok-bodies.ensures.scripts;
      ticks = c.in_ok-bodies.ensures.ticks;
      eager_jobs = c.in_ok-bodies.ensures.eager_jobs;
      ready = c.in_ok-bodies.ensures.ready;
      opened = c.in-Ok.ensures.opened;
      places = c.in-Ok.ensures.parts.2 ∙ c.jobs.ensures;
      entries = c.in-Ok.ensures.parts.3;
      names_are = c.in-Ok.ensures.parts.0;
      admitted_is = c.in-Ok.ensures.parts.1 ∙ c.bounds_of-bounds.ensures.which;
    })
