use Rattle.std.proofs.Common.{◌∙◌, ◌++◌, ◌∷◌, [], List, map, take, ap, sym}
use Rattle.std.proofs.lemmas.List.{map_more}
use Rattle.txn_set.specs.declared.decl.TxnDecl.{TxnDecl}
use Rattle.job_rows.specs.declared.row.Urgency.{Urgency}
use Rattle.job_rows.specs.Upkeep.{urgency_of}
use Rattle.job_rows.proofs.pending.urgencies.Goals as goal

pub loop-txn-preserved : goal.loop-txn-preserved
loop-txn-preserved c =
    let before : List TxnDecl = take c.loop-txn.txn-index c.args.txns.now in
    c.in_ok-push.ensures.items
    ∙ (ap (λ (l : List Urgency). l ++ urgency_of c.txn-item.result ∷ []) c.loop-txn.invariant
    ∙ (ap (λ (t : TxnDecl). map urgency_of before ++ urgency_of t ∷ []) c.txn-item.is
    ∙ sym (map_more urgency_of c.args.txns.now c.loop-txn.txn-index _ c.loop-txn-test.true)))
