use Rattle.txn_compiler.proofs.Search.{searched-first, searched-more, searched-all}
use Rattle.txn_compiler.proofs.cycle.search.Goals as goal

pub loop-item-init : goal.loop-item-init
loop-item-init c =
    searched-first c.args.graph.now.items c.args.graph.now.txns c.args.start _ _ _ _ _ c.requires.single c.items.ensures.value c.parents.ensures.reads c.requires.none_reached c.requires.none_done c.mark.ensures

pub loop-item-preserved : goal.loop-item-preserved
loop-item-preserved c =
    searched-more c.args.graph.now.items c.args.graph.now.txns c.args.start c.in-Some.item _ _ _ _ _ c.requires.single c.items-in-Some.ensures.value c.parents-in-Some.ensures.reads c.in-Some.ensures.some c.mark-in-Some.ensures c.loop-item.invariant

pub returns : goal.returns
returns c = searched-all c.args.graph.now.items c.args.graph.now.txns c.args.start c.loop-item.reached c.loop-item.done c.in_default.ensures.none c.loop-item.invariant
