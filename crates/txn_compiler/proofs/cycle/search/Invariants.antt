use Rattle.std.proofs.Common.{not}
use Rattle.std.specs.List.{count_by}
use Rattle.txn_compiler.proofs.Search.{IsSearched}
use Rattle.txn_compiler.proofs.cycle.search.Given as goal

abbrev pub invariant-loop-item : goal.invariant-loop-item
invariant-loop-item l = IsSearched l.graph.items l.graph.txns l.start l.reached l.done

abbrev pub decreases-loop-item : goal.decreases-loop-item
decreases-loop-item l = count_by not l.done
