use Rattle.std.proofs.Common.{ℤ, FitsSigned, w64, get_or, pos, subst, rules, arith}
use Rattle.std.proofs.lemmas.Int.{to_z-of_z}
use Rattle.std.proofs.lemmas.Result.{on_ok_weaker}
use Rattle.scenario_writer.specs.Canonical.{integer}
use Rattle.scenario_writer.specs.Integers.{IsI64}
use Rattle.scenario_writer.specs.Sent.{Sends}
use Rattle.scenario_writer.proofs.Loops.{begun, more_mapped_at, all_mapped, more_hold_at, all_hold}
use Rattle.scenario_writer.proofs.txns.samples.Goals as goal

pub loop-sample-init : goal.loop-sample-init
loop-sample-init c = record { begun = begun _ _ _ c.in_ok-begin_array.ensures; fits = λ k d lt. absurd (omega arith) }

pub loop-sample-preserved : goal.loop-sample-preserved
loop-sample-preserved c =
    let fits : FitsSigned w64 (get_or c.args.samples.now c.loop-sample.sample-index (pos 0)) = search rules in record {
      begun = more_mapped_at integer c.args.samples.now c.loop-sample.sample-index (pos 0) _ _ _ _
          c.loop-sample-test.true c.loop-sample.invariant.begun (subst (λ (z : ℤ).
          Sends (integer z) c.loop-sample.out c.integer.new.out) (to_z-of_z w64 _ fits) c.in_ok-integer.ensures.data);
      fits = more_hold_at IsI64 c.args.samples.now c.loop-sample.sample-index (pos 0) c.loop-sample-test.true
          c.loop-sample.invariant.fits fits;
    }

pub returns-clause-data : goal.returns-clause-data
returns-clause-data c = on_ok_weaker c.end_array.result (all_mapped integer c.args.samples.now
    c.loop-sample.sample-index _ _ _ _ c.loop-sample-test.false c.loop-sample.invariant.begun) c.end_array.ensures

pub returns-clause-fits : goal.returns-clause-fits
returns-clause-fits c = on_ok_weaker c.end_array.result (λ e. all_hold IsI64 c.args.samples.now
    c.loop-sample.sample-index c.loop-sample-test.false c.loop-sample.invariant.fits) c.end_array.ensures
