use Rattle.std.proofs.Common.{◌+◌, length, sym, ap, ◌∙◌, arith}
use Rattle.update_rates.specs.Rates.{is_earlier, load, period}
use Rattle.update_rates.specs.Updaters.{updater_at}
use Rattle.response_test.specs.Loads.{uses}
use Rattle.update_rates.proofs.Ranges.{sum-fails}
use Rattle.update_rates.proofs.Windows.{no_rate, term_of, rated-row, loads-start, loads-more}
use Rattle.update_rates.proofs.deadline.earlier_loads.Goals as goal
use Rattle.update_rates.proofs.deadline.earlier_loads.Goals.{then-is_earlier+in_ok-add, else-is_earlier}

pub loop-other-init : goal.loop-other-init
loop-other-init c = record {
  few = omega (arith, ap length c.in_ok-loads.ensures);
  is = λ w. loads-start c.args.updaters.now c.args.tx w _ c.in_ok-loads.ensures;
}

pub add-requires-clause-period : goal.add-requires-clause-period
add-requires-clause-period c =
    rated-row c.args.updaters.now c.args.rates.now c.loop-other.other no_rate (omega arith) (c.requires.rates.each c.loop-other.other (omega arith) (sym c.is_earlier.ensures ∙ c.if-is_earlier.true))

pub loop-other-preserved : goal.loop-other-preserved
loop-other-preserved c =
    elim c.if-is_earlier.branch [
      | then-is_earlier+in_ok-add w ↦
          (let yes = sym c.is_earlier.ensures ∙ w.if-is_earlier.true in
          rw w.loads-is
          (record {
            few = omega (arith, w.in_ok-add.ensures.length, c.loop-other.invariant.few);
            is = λ v. loads-more c.args.updaters.now c.args.rates.now c.args.tx c.loop-other.other v c.loop-other.loads w.add.new.self (omega arith) yes (c.requires.rates.each c.loop-other.other (omega arith) yes) (w.in_ok-add.ensures.uses v) (c.loop-other.invariant.is v);
          }))
      | else-is_earlier w ↦
          rw w.loads-is
          (record {
            few = omega (arith, c.loop-other.invariant.few);
            is =
                λ v.
                sum-fails (λ h. is_earlier c.args.updaters.now h c.args.tx) (term_of c.args.updaters.now v) c.loop-other.other
                (length c.args.updaters.now) ((updater_at c.args.updaters.now c.args.tx).steps + uses v c.loop-other.loads) (load c.args.updaters.now (period c.args.updaters.now) c.args.tx v) (omega arith)
                (sym c.is_earlier.ensures ∙ w.if-is_earlier.false) (c.loop-other.invariant.is v);
          })
    ]
