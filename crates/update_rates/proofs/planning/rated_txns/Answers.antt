use Rattle.std.proofs.Common.{ℕ, List, [], ◌∷◌, ◌++◌, map, sym, ap, ◌∙◌, arith}
use Rattle.std.specs.List.{range_with_len}
use Rattle.std.proofs.lemmas.List.FromFn.{map-range_with_len_more}
use Rattle.txn_set.specs.declared.decl.TxnDecl.{TxnDecl}
use Rattle.txn_set.specs.Set.{txn_of}
use Rattle.update_rates.specs.Updaters.{updaters}
use Rattle.update_rates.specs.Rates.{rate_of}
use Rattle.update_rates.specs.RatedSet.{with_rate}
use Rattle.update_rates.proofs.Windows.{no_rate}
use Rattle.update_rates.proofs.Planned.{rated-one}
use Rattle.update_rates.proofs.planning.rated_txns.Goals as goal

pub loop-tx-preserved : goal.loop-tx-preserved
loop-tx-preserved c =
    let made = λ (tx : ℕ). with_rate (rate_of (updaters c.args.set.now) tx) (txn_of c.args.set.now tx) in
    c.in_ok-push.ensures.items
    ∙ ap (λ (ts : List TxnDecl). ts ++ c.in_ok-rated_txn.field-0 ∷ []) c.loop-tx.invariant
    ∙ ap (λ (t : TxnDecl). map made (range_with_len 0 c.loop-tx.tx) ++ t ∷ [])
    (c.in_ok-rated_txn.ensures
    ∙ rated-one c.args.set.now c.args.rates.now c.txns-txn-items.result.now c.loop-tx.tx c.txn-item.result no_rate c.requires c.txns-txn-items.ensures
    (omega arith) c.txn-item.is)
    ∙ sym (map-range_with_len_more made 0 c.loop-tx.tx c.loop-tx.tx (omega arith))
