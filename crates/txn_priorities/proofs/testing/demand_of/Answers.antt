use Rattle.std.proofs.Common.{◌≡◌, ◌*◌, sym, ap, ◌∙◌, refl, arith}
use Rattle.std.specs.Int.{div_ceil}
use Rattle.txn_set.specs.declared.decl.TxnDecl.{TxnDecl}
use Rattle.txn_set.specs.Set.{no_txn, txn_of}
use Rattle.txn_priorities.proofs.Tested.{demand-start, demand-more, demand-same, demand-end, term-le}
use Rattle.txn_priorities.proofs.testing.demand_of.Goals as goal
use Rattle.txn_priorities.proofs.testing.demand_of.Goals.{then-is_above, else-is_above}

pub loop-other-init : goal.loop-other-init
loop-other-init c =
    let steps = ap (λ (t : TxnDecl). t.steps) c.txn.ensures in
    let times = c.requires.compiled.times c.args.tx no_txn c.requires.tx in
    record {
      few = omega (arith, steps, times.steps.1, c.requires.few);
      is = demand-start c.args.level.set.now c.args.level.prios.now c.args.tx c.args.ticks _ c.args.level.blocking c.requires.tx c.requires.free steps c.requires.blocking;
    }

pub loop-other-preserved : goal.loop-other-preserved
loop-other-preserved c =
    elim c.if-is_above.branch [
      | then-is_above w ↦
          (let other = c.loop-other.other in
          let times = c.requires.compiled.times other no_txn (omega (arith, c.requires.one_each)) in
          let own = txn_of c.args.level.set.now other in
          let begun : w.div_ceil.result ≡ div_ceil c.args.ticks own.period = w.div_ceil.ensures ∙ ap (div_ceil c.args.ticks) (ap (λ (t : TxnDecl). t.period) w.txn-txn.ensures) in
          let term : w.div_ceil.result * w.txn-txn.result.now.steps ≡ div_ceil c.args.ticks own.period * own.steps = rw (begun, ap (λ (t : TxnDecl). t.steps) w.txn-txn.ensures) refl in
          let small = term-le own.period c.args.ticks own.steps times.period.0 c.requires.ticks times.steps.1 in
          record {
            few = omega (arith, w.total-is, c.loop-other.invariant.few, term, small);
            is = rw w.total-is
                (demand-more c.args.level.set.now c.args.level.prios.now c.args.tx c.args.ticks other _ c.loop-other.total _ (omega (arith, c.requires.one_each)) (sym c.is_above.ensures ∙ w.if-is_above.true) term c.loop-other.invariant.is);
          })
      | else-is_above w ↦ record {
        few = omega (arith, w.total-is, c.loop-other.invariant.few);
        is = rw w.total-is
            (demand-same c.args.level.set.now c.args.level.prios.now c.args.tx c.args.ticks c.loop-other.other c.loop-other.total _ (omega (arith, c.requires.one_each)) c.requires.free (sym c.is_above.ensures ∙ w.if-is_above.false) c.loop-other.invariant.is);
      }
    ]

pub returns : goal.returns
returns c = demand-end c.args.level.set.now c.args.level.prios.now c.args.tx c.args.ticks c.loop-other.other c.loop-other.total _ (omega (arith, c.requires.one_each)) c.loop-other.invariant.is
