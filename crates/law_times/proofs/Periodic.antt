-- Ticks a period apart: which of them is the next.
use Rattle.std.proofs.Common.{ℕ, zero, suc, ◌+◌, ◌*◌, ◌<◌, ◌≤◌, refl, ap, sym, subst, inl, inr, arith, suc-mul, zero-mul}
use Rattle.step_journal.specs.Timing.{periodic}
use Rattle.law_histories.proofs.Members.{In}

pub first_in : (f p n now : ℕ) → f ≤ now → now < f + n * p → In f (periodic f p n)
first_in f p zero now le lt = absurd (omega (arith, zero-mul p))
first_in f p (suc n) now le lt = inl refl

pub next_in : (f p n a now : ℕ) → In a (periodic f p n) → a + p ≤ now → now < f + n * p → In (a + p) (periodic f p n)
next_in f p zero a now i le lt = absurd i
next_in f p (suc n) a now (inr i) le lt = inr (next_in (f + p) p n a now i le (omega (arith, suc-mul n p)))
next_in f p (suc n) a now (inl e) le lt =
    inr (subst (λ (k : ℕ). In k (periodic (f + p) p n)) (ap (λ (k : ℕ). k + p) (sym e)) (first_in (f + p) p n now (omega (arith, e)) (omega (arith, suc-mul n p))))
