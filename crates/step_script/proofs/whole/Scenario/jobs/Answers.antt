use Rattle.std.proofs.Common.{◌≤◌, arith}
use Rattle.step_script.specs.Releases.{jobs_of}
use Rattle.step_script.proofs.Counts.{few_at}
use Rattle.step_script.proofs.whole.Scenario.jobs.Goals as goal

pub jobs-requires : goal.jobs-requires
jobs-requires c =
    let few : jobs_of c.index-as_slice-tx.result ≤ 65536 =
    few_at c.as_slice.result.now c.args.self.now.releases c.args.tx.0 c.index-as_slice-tx.result c.as_slice.ensures
    (omega (arith, c.requires.good.released, c.requires.in_range)) c.index-as_slice-tx.is c.requires.good.few_jobs in
    omega arith
