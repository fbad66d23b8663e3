use Rattle.std.proofs.Common.{arith}
use Rattle.txn_compiler.proofs.Search.{settled-more}
use Rattle.txn_compiler.proofs.cycle.settle_item.Goals as goal

pub returns : goal.returns
returns c =
    settled-more c.args.graph.now.items c.args.graph.now.txns c.args.item _ _ _ c.requires.single (omega (arith, c.requires.one_each)) c.items.ensures.value c.parents.ensures.reads c.if-settled-item.false
    c.if-not-are_settled.ensures c.requires.settled
