use Rattle.std.proofs.Common.{◌≡◌, ◌++◌}
use Rattle.std.specs.Vec.Iter.{into_iter_len}
use Rattle.io_edge.specs.Words.{said}
use Rattle.io_edge.proofs.words.rest_of.Given as goal

abbrev pub invariant-loop-arg : goal.invariant-loop-arg
invariant-loop-arg l = l.words.items ++ said l.args ≡ said l.fn.args

abbrev pub decreases-loop-arg : goal.decreases-loop-arg
decreases-loop-arg l = into_iter_len l.args
