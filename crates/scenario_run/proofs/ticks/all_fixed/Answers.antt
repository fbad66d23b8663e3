use Rattle.std.proofs.Common.{◌<◌, length, refl, arith}
use Rattle.step_script.proofs.Counts.{few_at}
use Rattle.scenario_run.proofs.ticks.all_fixed.Goals as goal

pub fixed-requires-clause-few : goal.fixed-requires-clause-few
fixed-requires-clause-few c =
    let inside : c.loop-i.i < length c.args.releases.now = omega (arith, c.loop-i-test.true, c.requires.each) in
    few_at c.args.releases.now c.args.releases.now c.loop-i.i c.index-releases-i.result refl inside c.index-releases-i.is c.requires.few
