use Rattle.std.proofs.Common.{◌≡◌, ℕ, ◌<◌, length, ap, sym, subst, ◌∙◌, arith}
use Rattle.table_tests.proofs.calendar.refusals.Goals as goal

pub check-requires : goal.check-requires
check-requires g c =
    let size : length c.plan.new.self.periods ≡ 2 = ap length (c.plan.ensures.periods ∙ (c.in_ok-calendar.ensures.periods ∙ c.in_ok-periods.ensures.items)) in
    subst (λ (n : ℕ). 0 < n) (sym size) (omega arith)

pub check-requires-2 : goal.check-requires-2
check-requires-2 g c =
    let size : length c.due.new.self.periods ≡ 2 = ap length (c.due.ensures.rest.periods ∙ (c.plan.ensures.periods ∙ (c.in_ok-calendar.ensures.periods ∙ c.in_ok-periods.ensures.items))) in
    subst (λ (n : ℕ). 0 < n) (sym size) (omega arith)
