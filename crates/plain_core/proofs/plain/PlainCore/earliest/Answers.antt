use Rattle.std.proofs.Common.{ap, ◌∙◌, arith, length, List, get_or}
use Rattle.rt_base.specs.declared.release.Plans.{Plans}
use Rattle.plain_core.proofs.Stood.{fit_core, set_size}
use Rattle.plain_core.proofs.plain.PlainCore.earliest.Goals as goal

pub plans_at-plans-requires : goal.plans_at-plans-requires
plans_at-plans-requires c = omega (arith, (fit_core _ c.self.invariant).plans, set_size _ _ c.self.view_is, ap length c.plans.ensures)

pub earliest-requires-clause-last : goal.earliest-requires-clause-last
earliest-requires-clause-last c =
    let tx = c.args.tx in
    let e = c.plans_at-plans.ensures ∙ ap (λ (l : List Plans). get_or l tx.0 (record { number = 0; last = 0 })) c.plans.ensures in
    omega (arith, (fit_core _ c.self.invariant).early tx.0, ap (λ (p : Plans). p.last) e)
