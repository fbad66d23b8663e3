use Rattle.std.proofs.Common.{arith, sym, ◌∙◌}
use Rattle.scenario_reader.proofs.Counting.{greatest_end, tick_count}
use Rattle.step_script.specs.Releases.{ticks_of}
use Rattle.scenario_reader.proofs.plans.last_tick.Goals as goal

pub returns : goal.returns
returns c =
    let count = tick_count c.args.txn.now c.args.releases.now (sym c.is_eager.ensures ∙ c.if-is_eager.false) in
    sym (greatest_end c.loop-index.last c.loop-index.index (ticks_of c.args.txn.now c.args.releases.now)
    (omega (arith, count, c.jobs-index-end.ensures, c.loop-index-test.false))) ∙ c.loop-index.invariant
