use Rattle.std.proofs.Common.{arith}
use Rattle.scenario_reader.proofs.Counting.{few_at}
use Rattle.scenario_reader.proofs.plans.first_refused.Goals as goal

pub refused_in-requires-clause-few : goal.refused_in-requires-clause-few
refused_in-requires-clause-few c =
    few_at c.args.releases.now c.loop-tx.tx c.index-releases-tx.result
    (omega (arith, c.requires.each, c.loop-tx-test.true)) c.index-releases-tx.is c.requires.few
