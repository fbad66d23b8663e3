use Rattle.std.proofs.Common.{◌∙◌, sym, ap, map, List, ℕ, subst}
use Rattle.inherit_prio.specs.Waits.{IsOrder}
use Rattle.txn_set.specs.declared.decl.TxnDecl.{TxnDecl}
use Rattle.core_tables.proofs.PendingOpens.{opening_table, opening_are_rows}
use Rattle.core_tables.proofs.pending.Pending.new.Goals as goal

pub invariant_of-result : goal.invariant_of-result
invariant_of-result c =
    let e = c.in_ok-held.ensures in
    let rows = c.in_ok-heads.ensures in
    opening_table c.args.set.now c.in_ok-heads.heads.items c.in_ok-heads.works.items c.in_ok-held.held c.in_ok-held.waits c.in_ok-deadlines.deadlines.items c.empty.result c.is_compiled.ensures
    rows.heads rows.works e.prios (e.waits ∙ sym e.prios) (subst (λ (p : List ℕ). IsOrder p c.in_ok-held.waits.order) (sym e.prios) e.order)
    (c.in_ok-deadlines.ensures ∙ ap (map (λ (t : TxnDecl). t.deadline)) c.txns.ensures) e.free e.nobody c.empty.ensures

pub returns : goal.returns
returns c =
    let e = c.in_ok-held.ensures in
    let rows = c.in_ok-heads.ensures in
    opening_are_rows c.args.set.now c.in_ok-heads.heads.items c.in_ok-heads.works.items c.in_ok-held.held c.in_ok-held.waits c.in_ok-deadlines.deadlines.items c.empty.result c.is_compiled.ensures
    rows.heads rows.works e.prios (e.waits ∙ sym e.prios) (subst (λ (p : List ℕ). IsOrder p c.in_ok-held.waits.order) (sym e.prios) e.order)
    (c.in_ok-deadlines.ensures ∙ ap (map (λ (t : TxnDecl). t.deadline)) c.txns.ensures) e.free e.nobody c.empty.ensures
    e.size e.ceilings
