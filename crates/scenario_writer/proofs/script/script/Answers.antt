use Rattle.std.proofs.lemmas.Result.{on_ok_weaker}
use Rattle.scenario_writer.proofs.Runs.{next_good, next_fits, next_left, first_left, none_left, all_fit}
use Rattle.scenario_writer.proofs.script.script.Goals as goal

pub step-requires-clause-good : goal.step-requires-clause-good
step-requires-clause-good c = next_good c.args.names.now c.args.ops.now _ _ c.loop-op.run c.loop-op.op-index
    c.op-item.result c.loop-op-test.true c.op-item.is c.loop-op.invariant

pub step-requires-clause-short : goal.step-requires-clause-short
step-requires-clause-short c = next_fits c.args.names.now c.args.ops.now _ _ c.loop-op.run c.loop-op.op-index
    c.op-item.result c.loop-op-test.true c.op-item.is c.loop-op.invariant

pub loop-op-init : goal.loop-op-init
loop-op-init c = first_left c.args.names.now c.args.ops.now _ _ c.requires.good c.requires.short
    c.in_ok-begin_array.ensures

pub loop-op-preserved : goal.loop-op-preserved
loop-op-preserved c =
    let goes_on = c.in_ok-run.ensures.goes_on in
    next_left c.args.names.now c.args.ops.now _ _ _ c.loop-op.run _ c.loop-op.op-index c.op-item.result goes_on.0
    c.loop-op-test.true c.op-item.is c.loop-op.invariant goes_on.1 goes_on.2 c.in_ok-run.ensures.short
    c.in_ok-run.ensures.fits

pub returns-clause-data : goal.returns-clause-data
returns-clause-data c = on_ok_weaker c.end_array.result (none_left c.args.names.now c.args.ops.now _ _ _ _ c.loop-op.run
    c.loop-op.op-index c.loop-op-test.false c.loop-op.invariant c.in_ok-end_run.ensures) c.end_array.ensures

pub returns-clause-fits : goal.returns-clause-fits
returns-clause-fits c = on_ok_weaker c.end_array.result (λ e. all_fit c.args.names.now c.args.ops.now _ _ c.loop-op.run
    c.loop-op.op-index c.loop-op-test.false c.loop-op.invariant) c.end_array.ensures
