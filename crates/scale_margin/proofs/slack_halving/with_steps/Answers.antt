use Rattle.std.proofs.Common.{◌∙◌, subst}
use Rattle.txn_compiler.specs.Refusal.{Refuses}
use Rattle.scale_margin.proofs.SlackLooks.{declared, in_range, kept_is, no_refusal}
use Rattle.scale_margin.proofs.slack_halving.with_steps.Goals as goal

pub compile-requires : goal.compile-requires
compile-requires c =
    in_range c.args.set.now c.args.tx.0 c.args.count c.is_compiled.ensures c.requires _
    (declared c.args.set.now c.args.tx.0 c.args.count _ _ _ _ _ _ c.in_ok-items.ensures.items c.items.ensures c.in_ok-txns.ensures c.txns.ensures c.in_ok-together.ensures c.together.ensures)

pub returns-in-Ok : goal.returns-in-Ok
returns-in-Ok c =
    c.in-Ok.ensures.set
    ∙ kept_is c.args.set.now c.args.tx.0 c.args.count c.is_compiled.ensures c.requires _
    (declared c.args.set.now c.args.tx.0 c.args.count _ _ _ _ _ _ c.in_ok-items.ensures.items c.items.ensures c.in_ok-txns.ensures c.txns.ensures c.in_ok-together.ensures c.together.ensures)

pub not_compiled-requires : goal.not_compiled-requires
not_compiled-requires c =
    subst (λ o. Refuses o c.in-Err.error)
    (no_refusal c.args.set.now c.args.tx.0 c.args.count c.is_compiled.ensures c.requires _
    (declared c.args.set.now c.args.tx.0 c.args.count _ _ _ _ _ _ c.in_ok-items.ensures.items c.items.ensures c.in_ok-txns.ensures c.txns.ensures c.in_ok-together.ensures c.together.ensures))
    c.in-Err.ensures.refused
