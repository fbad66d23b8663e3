use Rattle.scenario_run.proofs.Ready.{ready}
use Rattle.scenario_run.proofs.making.prepared.Goals as goal

pub returns-in-Ok-clause-ready : goal.returns-in-Ok-clause-ready
returns-in-Ok-clause-ready c =
    ready c.args.set.now c.args.tasks.scripts c.args.tasks.releases c.is_compiled.ensures c.requires _ _ _ c.into_vec.ensures c.in-Ok.ensures.0 c.in-Ok.ensures.1
