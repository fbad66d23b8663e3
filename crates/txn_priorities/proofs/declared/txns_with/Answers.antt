use Rattle.std.proofs.Common.{refl}
use Rattle.law_times.specs.Pass.{prio_at}
use Rattle.txn_priorities.proofs.Unchanged.{next-with, all-with}
use Rattle.txn_priorities.proofs.declared.txns_with.Goals as goal

pub loop-tx-preserved : goal.loop-tx-preserved
loop-tx-preserved c =
    next-with (prio_at c.args.prios.now) c.args.txns.now c.loop-tx.tx c.index-txns-tx.result c.in_ok-txn_with.field-0 _ c.loop-tx.copies.items _ c.loop-tx-test.true
    c.index-txns-tx.is refl c.in_ok-txn_with.ensures c.loop-tx.invariant c.in_ok-push.ensures.items

pub returns : goal.returns
returns c = all-with (prio_at c.args.prios.now) c.args.txns.now c.loop-tx.copies.items c.loop-tx.tx c.loop-tx-test.false c.loop-tx.invariant
