use Rattle.std.proofs.Common.{arith}
use Rattle.step_script.proofs.Counts.{few_at}
use Rattle.step_script.proofs.whole.Scenario.release.Goals as goal

pub tick-requires-clause-jobs : goal.tick-requires-clause-jobs
tick-requires-clause-jobs c =
    few_at c.as_slice-2.result.now c.args.self.now.releases c.args.tx.0 c.index-as_slice-tx-2.result
    c.as_slice-2.ensures
    (omega (arith, c.requires.good.released, c.requires.in_range)) c.index-as_slice-tx-2.is c.requires.good.few_jobs
