use Rattle.std.proofs.Common.{◌≡◌, map}
use Rattle.std.specs.List.{range_with_len}
use Rattle.txn_set.specs.Set.{txn_of}
use Rattle.update_rates.specs.Updaters.{updaters}
use Rattle.update_rates.specs.Rates.{rate_of}
use Rattle.update_rates.specs.RatedSet.{with_rate}
use Rattle.update_rates.proofs.planning.rated_txns.Given as goal

abbrev pub invariant-loop-tx : goal.invariant-loop-tx
invariant-loop-tx l =
    l.txns.items ≡ map (λ tx. with_rate (rate_of (updaters l.set) tx) (txn_of l.set tx)) (range_with_len 0 l.tx)
