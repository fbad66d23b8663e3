use Rattle.std.proofs.Common.{◌<◌, ◌∙◌, length, None, subst, sym, ap, arith}
use Rattle.std.proofs.lemmas.List.{get_or_read}
use Rattle.std.specs.Option.{option_map}
use Rattle.ceiling_table.specs.Held.{HasItem}
use Rattle.core_tables.specs.Rows.{PendingSeen, AreRows, above_of}
use Rattle.core_tables.proofs.Questions.{holder_low, answer_granted, answer_has_head, answer_named}
use Rattle.core_tables.proofs.pending.Pending.lock_refusal.Goals as goal

pub returns-in_err-above : goal.returns-in_err-above
returns-in_err-above c set s row are here =
    ap (option_map above_of) c.from_residual.ensures
    ∙ answer_granted _ _ _ _ _ _ _ _ c.self.invariant set s c.args.tx.0 row c.args.op (subst (λ (p : PendingSeen). AreRows set p s.rows) (sym c.self.view_is) are) here
    (subst (λ (p : PendingSeen). HasItem (length p.facts.ceilings) c.args.op) (sym c.self.view_is) c.requires.item) (sym c.refused.ensures ∙ c.in_err-above.was)

pub index-requires : goal.index-requires
index-requires c =
    omega (arith, holder_low c.self.inside.held c.args.tx.0 c.in_ok-above.above (sym c.refused.ensures ∙ c.in_ok-above.was), c.self.invariant.heads_size, c.self.inside.heads.ok)

pub returns-in_err-head : goal.returns-in_err-head
returns-in_err-head c set s row are here =
    let above = sym c.refused.ensures ∙ c.in_ok-above.was in
    let low : c.in_ok-above.above.holder.0 < length c.self.inside.heads.items = omega (arith, holder_low c.self.inside.held c.args.tx.0 c.in_ok-above.above above, c.self.invariant.heads_size) in
    absurd (answer_has_head _ _ _ _ _ _ _ _ c.self.invariant set s c.args.tx.0 row c.args.op (subst (λ (p : PendingSeen). AreRows set p s.rows) (sym c.self.view_is) are) here
    (subst (λ (p : PendingSeen). HasItem (length p.facts.ceilings) c.args.op) (sym c.self.view_is) c.requires.item) c.in_ok-above.above above
    (sym (get_or_read c.self.inside.heads.items c.in_ok-above.above.holder.0 c.index.result.now low c.index.ensures None) ∙ c.in_err-head.was))

pub returns : goal.returns
returns c set s row are here =
    let above = sym c.refused.ensures ∙ c.in_ok-above.was in
    let low : c.in_ok-above.above.holder.0 < length c.self.inside.heads.items = omega (arith, holder_low c.self.inside.held c.args.tx.0 c.in_ok-above.above above, c.self.invariant.heads_size) in
    answer_named _ _ _ _ _ _ _ _ c.self.invariant set s c.args.tx.0 row c.args.op (subst (λ (p : PendingSeen). AreRows set p s.rows) (sym c.self.view_is) are) here
    (subst (λ (p : PendingSeen). HasItem (length p.facts.ceilings) c.args.op) (sym c.self.view_is) c.requires.item) c.in_ok-above.above c.in_ok-head.head
    (sym c.if-not-needs.ensures) above
    (sym (get_or_read c.self.inside.heads.items c.in_ok-above.above.holder.0 c.index.result.now low c.index.ensures None) ∙ c.in_ok-head.was)
