use Rattle.std.proofs.Common.{◌∙◌, ◌++◌, ◌∷◌, [], List, ℕ, map, take, ap, sym}
use Rattle.std.proofs.lemmas.List.{map_more}
use Rattle.txn_set.specs.declared.decl.TxnDecl.{TxnDecl}
use Rattle.job_rows.proofs.pending.prios.Goals as goal

pub loop-txn-preserved : goal.loop-txn-preserved
loop-txn-preserved c =
    let before : List TxnDecl = take c.loop-txn.txn-index c.args.txns.now in
    c.in_ok-push.ensures.items
    ∙ (ap (λ (l : List ℕ). l ++ c.txn-item.result.prio ∷ []) c.loop-txn.invariant
    ∙ (ap (λ (t : TxnDecl). map (λ x. x.prio) before ++ t.prio ∷ []) c.txn-item.is
    ∙ sym (map_more (λ (t : TxnDecl). t.prio) c.args.txns.now c.loop-txn.txn-index _ c.loop-txn-test.true)))
