use Rattle.std.proofs.Common.{◌≡◌, ◌*◌, ℕ, sym, ap, ◌∙◌, length, arith}
use Rattle.std.specs.Int.{div_ceil}
use Rattle.update_rates.specs.Updaters.{no_updater, updater_at}
use Rattle.update_rates.specs.Rates.{is_earlier, load, period}
use Rattle.update_rates.proofs.Ranges.{sum-passes, sum-fails, term-le}
use Rattle.update_rates.proofs.Windows.{no_rate, term_of, load-starts, rated-period, period-at}
use Rattle.update_rates.proofs.deadline.load_of.Goals as goal
use Rattle.update_rates.proofs.deadline.load_of.Goals.{then-is_earlier, else-is_earlier}

pub loop-other-init : goal.loop-other-init
loop-other-init c = record {
  few = omega (arith, (c.requires.steps c.args.tx no_updater c.requires.tx).few);
  is = load-starts c.args.updaters.now c.args.tx c.args.ticks;
}

pub div_ceil-requires : goal.div_ceil-requires
div_ceil-requires c =
    let rated = c.requires.rates.each c.loop-other.other (omega arith) (sym c.is_earlier.ensures ∙ c.if-is_earlier.true) in
    let some = rated-period c.args.updaters.now c.args.rates.now c.loop-other.other (omega arith) rated in
    omega (arith, some, period-at c.args.updaters.now c.args.rates.now c.loop-other.other no_rate rated)

pub loop-other-preserved : goal.loop-other-preserved
loop-other-preserved c =
    elim c.if-is_earlier.branch [
      | then-is_earlier w ↦
          (let us = c.args.updaters.now in
          let other = c.loop-other.other in
          let yes = sym c.is_earlier.ensures ∙ w.if-is_earlier.true in
          let rated = c.requires.rates.each other (omega arith) yes in
          let some = rated-period us c.args.rates.now other (omega arith) rated in
          let steps = (c.requires.steps other no_updater (omega arith)).few in
          let begun : w.div_ceil.result ≡ div_ceil c.args.ticks (period us other) = w.div_ceil.ensures ∙ ap (div_ceil c.args.ticks) (period-at us c.args.rates.now other no_rate rated) in
          let term : w.div_ceil.result * (updater_at us other).steps ≡ term_of us c.args.ticks other = ap (λ (n : ℕ). n * (updater_at us other).steps) begun in
          let small = term-le (period us other) c.args.ticks (updater_at us other).steps some c.requires.ticks steps in
          record {
            few = omega (arith, w.total-is, c.loop-other.invariant.few, term, small);
            is = rw w.total-is
                (sum-passes (λ h. is_earlier us h c.args.tx) (term_of us c.args.ticks) other (length us) c.loop-other.total
                (load us (period us) c.args.tx c.args.ticks) (w.div_ceil.result * (updater_at us other).steps) (omega arith) yes term c.loop-other.invariant.is);
          })
      | else-is_earlier w ↦ record {
        few = omega (arith, c.loop-other.invariant.few);
        is = rw w.total-is
            (sum-fails (λ h. is_earlier c.args.updaters.now h c.args.tx) (term_of c.args.updaters.now c.args.ticks) c.loop-other.other
            (length c.args.updaters.now) c.loop-other.total (load c.args.updaters.now (period c.args.updaters.now) c.args.tx c.args.ticks) (omega arith)
            (sym c.is_earlier.ensures ∙ w.if-is_earlier.false) c.loop-other.invariant.is);
      }
    ]
