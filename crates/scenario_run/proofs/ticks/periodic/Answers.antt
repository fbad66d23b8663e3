use Rattle.scenario_run.proofs.FixedTicks.{next_tick}
use Rattle.scenario_run.proofs.ticks.periodic.Goals as goal

pub loop-k-preserved : goal.loop-k-preserved
loop-k-preserved c = next_tick c.args.txn.now c.loop-k.k c.periodic_release.result c.loop-k.ticks.items c.push.new.self.items c.periodic_release.ensures c.in_ok-push.ensures.items c.loop-k.invariant
