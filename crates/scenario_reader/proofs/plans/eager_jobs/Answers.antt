use Rattle.std.proofs.Common.{arith}
use Rattle.scenario_reader.proofs.Counting.{eager_few, eager_more}
use Rattle.scenario_reader.proofs.plans.eager_jobs.Goals as goal

pub overflow_add-total : goal.overflow_add-total
overflow_add-total c =
    omega (
      arith,
      eager_few c.args.releases.now,
      c.requires,
      c.loop-one.invariant,
      c.eager-total.ensures,
      eager_more c.args.releases.now c.loop-one.one-index c.one-item.result c.loop-one-test.true c.one-item.is,
    )

pub returns-clause-few : goal.returns-clause-few
returns-clause-few c = omega (arith, eager_few c.args.releases.now, c.requires, c.loop-one.invariant)
