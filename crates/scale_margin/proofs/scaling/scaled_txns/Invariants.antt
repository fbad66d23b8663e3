use Rattle.std.proofs.Common.{◌≡◌, map, take}
use Rattle.scale_margin.specs.Scaled.{scaled_txn}
use Rattle.scale_margin.proofs.scaling.scaled_txns.Given as goal

abbrev pub invariant-loop-txn : goal.invariant-loop-txn
invariant-loop-txn l = l.scaled.items ≡ map (scaled_txn l.percent) (take l.txn-index l.txns)
