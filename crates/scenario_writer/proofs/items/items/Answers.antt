use Rattle.std.proofs.Common.{◌<◌, length, arith}
use Rattle.std.proofs.lemmas.Result.{on_ok_weaker}
use Rattle.scenario_writer.specs.Integers.{IsI64}
use Rattle.scenario_writer.proofs.Loops.{begun, one_more, done, more_hold_at, all_hold, next_item, no_items_left}
use Rattle.scenario_writer.proofs.items.items.Goals as goal

pub loop-i-init : goal.loop-i-init
loop-i-init c = record { begun = begun _ _ _ c.in_ok-begin_array.ensures; fits = λ k d lt. absurd (omega arith) }

pub loop-i-preserved : goal.loop-i-preserved
loop-i-preserved c =
    let a : c.loop-i.i < length c.args.names.now = omega (arith, c.requires, c.loop-i-test.true) in record {
      begun = one_more _ _ _ _ _ _ _ (next_item _ _ c.loop-i.i c.index-names-i.result _ a c.loop-i-test.true
          c.index-names-i.is) c.loop-i.invariant.begun c.in_ok-item.ensures.data;
      fits = more_hold_at (λ d. IsI64 d.initial) _ c.loop-i.i _ c.loop-i-test.true c.loop-i.invariant.fits
          c.in_ok-item.ensures.fits;
    }

pub returns-clause-data : goal.returns-clause-data
returns-clause-data c = on_ok_weaker c.end_array.result (done _ _ _ _ _ (no_items_left c.args.names.now c.args.decls.now
    c.loop-i.i (omega (arith, c.requires, c.loop-i-test.false))) c.loop-i.invariant.begun) c.end_array.ensures

pub returns-clause-fits : goal.returns-clause-fits
returns-clause-fits c = on_ok_weaker c.end_array.result (λ e. all_hold (λ d. IsI64 d.initial) c.args.decls.now c.loop-i.i
    c.loop-i-test.false c.loop-i.invariant.fits) c.end_array.ensures
