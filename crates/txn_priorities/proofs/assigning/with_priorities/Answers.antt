use Rattle.std.proofs.Common.{◌∙◌, subst}
use Rattle.txn_compiler.specs.Refusal.{Refuses}
use Rattle.law_times.specs.Pass.{prio_at}
use Rattle.txn_priorities.proofs.Compiling.{declared, in-range, kept-is, no-refusal}
use Rattle.txn_priorities.proofs.assigning.with_priorities.Goals as goal

pub compile-requires : goal.compile-requires
compile-requires c =
    in-range c.args.set.now (prio_at c.args.prios.now) c.is_compiled.ensures c.requires.distinct c.requires.range _
    (declared c.args.set.now (prio_at c.args.prios.now) _ _ _ _ _ _ c.in_ok-items.ensures.items c.items.ensures c.in_ok-txns.ensures c.txns.ensures c.in_ok-together.ensures c.together.ensures)

pub returns-in-Ok : goal.returns-in-Ok
returns-in-Ok c =
    c.in-Ok.ensures.set
    ∙ kept-is c.args.set.now (prio_at c.args.prios.now) c.is_compiled.ensures c.requires.distinct c.requires.range _
    (declared c.args.set.now (prio_at c.args.prios.now) _ _ _ _ _ _ c.in_ok-items.ensures.items c.items.ensures c.in_ok-txns.ensures c.txns.ensures c.in_ok-together.ensures c.together.ensures)

pub not_compiled-requires : goal.not_compiled-requires
not_compiled-requires c =
    subst (λ o. Refuses o c.in-Err.error)
    (no-refusal c.args.set.now (prio_at c.args.prios.now) c.is_compiled.ensures c.requires.distinct c.requires.range _
    (declared c.args.set.now (prio_at c.args.prios.now) _ _ _ _ _ _ c.in_ok-items.ensures.items c.items.ensures c.in_ok-txns.ensures c.txns.ensures c.in_ok-together.ensures c.together.ensures))
    c.in-Err.ensures.refused
