use Rattle.std.proofs.Common.{arith}
use Rattle.scenario_reader.proofs.Counting.{few_at}
use Rattle.scenario_reader.proofs.plans.last_of_all.Goals as goal

pub last_tick-requires-clause-few : goal.last_tick-requires-clause-few
last_tick-requires-clause-few c =
    few_at c.args.releases.now c.loop-tx.tx c.index-releases-tx.result
    (omega (arith, c.requires.each, c.loop-tx-test.true)) c.index-releases-tx.is c.requires.few
