-- A job as one number.
use Rattle.std.proofs.Common.{◌≡◌, ℕ, ◌+◌, ◌*◌, ◌^◌, ◌<◌, Bool, true, false, nat_eq, sym, ap, ◌∙◌, refl, inl, inr, arith}
use Rattle.std.specs.Prelude.{◌&&◌}
use Rattle.std.proofs.lemmas.Bool.{cases_eq, eq-eqb, ne_eqb}
use Rattle.rt_base.specs.declared.ids.JobId.{JobId}
use Rattle.step_journal.specs.State.{same_job}

false_right : (b : Bool) → (b && false) ≡ false
false_right true = refl
false_right false = refl

pub one_number : (a b : JobId) → a.tx.0 < 2 ^ 32 → b.tx.0 < 2 ^ 32
    → nat_eq (a.serial * 2 ^ 32 + a.tx.0) (b.serial * 2 ^ 32 + b.tx.0) ≡ same_job a b
one_number a b low high =
    elim (cases_eq a.tx.0 b.tx.0) [
      | inl t ↦ elim (cases_eq a.serial b.serial) [
        | inl s ↦ eq-eqb _ _ (omega (arith, t, s)) ∙ sym (ap (λ (x : Bool). x && nat_eq a.serial b.serial) (eq-eqb _ _ t) ∙ eq-eqb _ _ s)
        | inr n ↦ ne_eqb _ _ (λ e. n (omega (arith, e, low, high))) ∙ sym (ap (λ (x : Bool). nat_eq a.tx.0 b.tx.0 && x) (ne_eqb _ _ n) ∙ false_right (nat_eq a.tx.0 b.tx.0))
      ]
      | inr n ↦ ne_eqb _ _ (λ e. n (omega (arith, e, low, high))) ∙ sym (ap (λ (x : Bool). x && nat_eq a.serial b.serial) (ne_eqb _ _ n))
    ]
