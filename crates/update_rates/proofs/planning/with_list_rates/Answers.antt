use Rattle.std.proofs.Common.{length, get_or, arith}
use Rattle.std.proofs.lemmas.List.FromFn.{fill_by_all}
use Rattle.txn_set.specs.Set.{no_txn}
use Rattle.update_rates.specs.RatedSet.{with_rate, list_rate}
use Rattle.update_rates.proofs.planning.with_list_rates.Goals as goal

pub returns : goal.returns
returns c =
    fill_by_all (λ tx. with_rate (list_rate (length c.args.txns.items) tx) (get_or c.args.txns.items tx no_txn)) c.loop-tx.txns.items (length c.args.txns.items) no_txn
    c.loop-tx.invariant.one_each (λ k less. c.loop-tx.invariant.given k no_txn (omega arith))
