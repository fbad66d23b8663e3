use Rattle.std.proofs.Common.{◌<◌, sym, ◌∙◌, length, arith}
use Rattle.std.proofs.lemmas.Bool.{not-true, not-false}
use Rattle.law_times.specs.Pass.{is_placed}
use Rattle.txn_priorities.proofs.Limited.{limit-at, limit-few}
use Rattle.txn_priorities.proofs.Tested.{left-more, left-same, row-is}
use Rattle.txn_priorities.proofs.testing.unplaced_of.Goals as goal
use Rattle.txn_priorities.proofs.testing.unplaced_of.Goals.{then-is_free+in_ok-push, else-is_free}

pub demand_of-demand-requires-clause-ticks : goal.demand_of-demand-requires-clause-ticks
demand_of-demand-requires-clause-ticks c =
    limit-few c.args.set.now c.loop-tx.tx _ c.is_compiled.ensures (omega (arith, c.requires.one_each)) (limit-at c.args.set.now c.args.limits.now c.loop-tx.tx 0 c.requires.limits (omega (arith, c.requires.one_each)))

pub loop-tx-preserved : goal.loop-tx-preserved
loop-tx-preserved c =
    elim c.if-is_free.branch [
      | then-is_free+in_ok-push w ↦
          (let inside : c.loop-tx.tx < length c.args.set.now.txns = omega (arith, c.requires.one_each) in
          let free = not-true (is_placed c.args.prios.now c.loop-tx.tx) (sym c.is_free.ensures ∙ w.if-is_free.true) in
          let limit-is = limit-at c.args.set.now c.args.limits.now c.loop-tx.tx 0 c.requires.limits inside in
          let more = left-more c.args.set.now c.args.prios.now c.loop-tx.tx c.loop-tx.rows.items _ _ inside free (row-is c.args.set.now c.args.prios.now c.loop-tx.tx _ _ limit-is w.demand_of-demand.ensures) c.loop-tx.invariant in
          rw (w.rows-is, w.in_ok-push.ensures.items) more)
      | else-is_free w ↦
          rw w.rows-is
          (left-same c.args.set.now c.args.prios.now c.loop-tx.tx c.loop-tx.rows.items _ (omega (arith, c.requires.one_each))
          (not-false (is_placed c.args.prios.now c.loop-tx.tx) (sym c.is_free.ensures ∙ w.if-is_free.false)) c.loop-tx.invariant)
    ]
