use Rattle.std.proofs.Common.{arith}
use Rattle.txn_priorities.proofs.Above.{blocking-starts, loud-next, blocking-ends}
use Rattle.txn_priorities.proofs.blocking.blocking_above.Goals as goal

pub loop-tx-init : goal.loop-tx-init
loop-tx-init c = record { few = omega arith; is = blocking-starts c.args.set.now c.args.prios.now }

pub loop-tx-preserved : goal.loop-tx-preserved
loop-tx-preserved c = record {
  few = omega (arith, c.greater-greatest.ensures, c.blocking_by.ensures.few, c.loop-tx.invariant.few);
  is = loud-next c.args.set.now c.args.prios.now c.loop-tx.tx c.loop-tx.greatest _ _ _ (omega (arith, c.requires)) c.loop-tx.invariant.is c.blocking_by.ensures.is c.greater-greatest.ensures;
}

pub returns-clause-is : goal.returns-clause-is
returns-clause-is c = blocking-ends c.args.set.now c.args.prios.now c.loop-tx.tx c.loop-tx.greatest _ (omega (arith, c.requires)) c.loop-tx.invariant.is
