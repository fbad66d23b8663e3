use Rattle.std.proofs.Common.{◌≡◌, ℕ, ◌<◌, length, ap, sym, subst, ◌∙◌, arith}
use Rattle.table_tests.proofs.calendar.releases.Goals as goal

pub plan-requires-2 : goal.plan-requires-2
plan-requires-2 g c =
    let size : length c.plan.new.self.periods ≡ 2 = ap length (c.plan.ensures.periods ∙ (c.in_ok-calendar.ensures.periods ∙ c.in_ok-periods.ensures.items)) in
    subst (λ (n : ℕ). 0 < n) (sym size) (omega arith)

pub next_for-requires : goal.next_for-requires
next_for-requires g c =
    let size : length c.plan-2.new.self.periods ≡ 2 = ap length (c.plan-2.ensures.periods ∙ (c.plan.ensures.periods ∙ (c.in_ok-calendar.ensures.periods ∙ c.in_ok-periods.ensures.items))) in
    subst (λ (n : ℕ). 1 < n) (sym size) (omega arith)

pub plan_next-requires : goal.plan_next-requires
plan_next-requires g c =
    let size : length c.plan-2.new.self.periods ≡ 2 = ap length (c.plan-2.ensures.periods ∙ (c.plan.ensures.periods ∙ (c.in_ok-calendar.ensures.periods ∙ c.in_ok-periods.ensures.items))) in
    subst (λ (n : ℕ). 1 < n) (sym size) (omega arith)
