use Rattle.std.proofs.Common.{sym, ◌∙◌, arith}
use Rattle.txn_priorities.proofs.Above.{users-start, users-next, users-here, users-end}
use Rattle.txn_priorities.proofs.blocking.is_used_above.Goals as goal

pub loop-tx-init : goal.loop-tx-init
loop-tx-init c = users-start c.args.set.now c.args.prios.now c.args.item.0

pub loop-tx-preserved : goal.loop-tx-preserved
loop-tx-preserved c = users-next c.args.set.now c.args.prios.now c.args.item.0 c.loop-tx.tx _ (omega (arith, c.requires)) (sym c.is_free_user.ensures ∙ c.if-is_free_user.false) c.loop-tx.invariant

pub returns-then-is_free_user : goal.returns-then-is_free_user
returns-then-is_free_user c = users-here c.args.set.now c.args.prios.now c.args.item.0 c.loop-tx.tx _ (omega (arith, c.requires)) (sym c.is_free_user.ensures ∙ c.if-is_free_user.true) c.loop-tx.invariant

pub returns : goal.returns
returns c = users-end c.args.set.now c.args.prios.now c.args.item.0 c.loop-tx.tx _ (omega (arith, c.requires)) c.loop-tx.invariant
