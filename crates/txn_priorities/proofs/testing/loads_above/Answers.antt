use Rattle.std.proofs.Common.{sym, ap, ◌∙◌, arith}
use Rattle.txn_set.specs.declared.decl.TxnDecl.{TxnDecl}
use Rattle.txn_priorities.proofs.Tested.{loads-more, loads-same, loads-end}
use Rattle.txn_priorities.proofs.testing.loads_above.Goals as goal
use Rattle.txn_priorities.proofs.testing.loads_above.Goals.{then-is_above+in_ok-add, else-is_above}

pub loop-other-preserved : goal.loop-other-preserved
loop-other-preserved c =
    elim c.if-is_above.branch [
      | then-is_above+in_ok-add w ↦
          rw w.loads-is
          (record {
            few = omega (arith, w.in_ok-add.ensures.length, c.loop-other.invariant.few);
            is = λ v.
                loads-more c.args.set.now c.args.prios.now c.args.tx v c.loop-other.other _ _ c.loop-other.loads w.add.new.self (omega (arith, c.requires.one_each)) (sym c.is_above.ensures ∙ w.if-is_above.true)
                (ap (λ (t : TxnDecl). t.steps) w.txn-txn.ensures) (ap (λ (t : TxnDecl). t.period) w.txn-txn.ensures) (w.in_ok-add.ensures.uses v) (c.loop-other.invariant.is v);
          })
      | else-is_above w ↦
          rw w.loads-is
          (record {
            few = omega (arith, c.loop-other.invariant.few);
            is = λ v.
                loads-same c.args.set.now c.args.prios.now c.args.tx v c.loop-other.other c.loop-other.loads (omega (arith, c.requires.one_each)) c.requires.free (sym c.is_above.ensures ∙ w.if-is_above.false)
                (c.loop-other.invariant.is v);
          })
    ]

pub returns : goal.returns
returns c = loads-end c.args.set.now c.args.prios.now c.args.tx c.loop-other.other c.loop-other.loads (omega (arith, c.requires.one_each)) c.loop-other.invariant.is
