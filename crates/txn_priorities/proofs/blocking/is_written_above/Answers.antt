use Rattle.std.proofs.Common.{sym, ◌∙◌, arith}
use Rattle.txn_priorities.proofs.Above.{writers-start, writers-next, writers-here, writers-end}
use Rattle.txn_priorities.proofs.blocking.is_written_above.Goals as goal

pub loop-tx-init : goal.loop-tx-init
loop-tx-init c = writers-start c.args.set.now c.args.prios.now c.args.item.0

pub loop-tx-preserved : goal.loop-tx-preserved
loop-tx-preserved c = writers-next c.args.set.now c.args.prios.now c.args.item.0 c.loop-tx.tx _ (omega (arith, c.requires)) (sym c.is_free_writer.ensures ∙ c.if-is_free_writer.false) c.loop-tx.invariant

pub returns-then-is_free_writer : goal.returns-then-is_free_writer
returns-then-is_free_writer c = writers-here c.args.set.now c.args.prios.now c.args.item.0 c.loop-tx.tx _ (omega (arith, c.requires)) (sym c.is_free_writer.ensures ∙ c.if-is_free_writer.true) c.loop-tx.invariant

pub returns : goal.returns
returns c = writers-end c.args.set.now c.args.prios.now c.args.item.0 c.loop-tx.tx _ (omega (arith, c.requires)) c.loop-tx.invariant
