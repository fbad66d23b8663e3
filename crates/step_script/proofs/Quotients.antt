-- A division that fits.
use Rattle.std.proofs.Common.{◌≡◌, ℕ, zero, suc, ◌<◌, ◌≤◌, ◌/◌, ◌^◌, ℤ, pos, negsuc, neg_ℤ, refl, sym, ap, ◌∙◌, arith, to_z, of_z, w64, FitsSigned}
use Rattle.std.specs.Int.RustNames.{int_div}
use Rattle.std.proofs.Math.Nat.{div-le_self, div-lt_self}
use Rattle.std.proofs.lemmas.Int.{quot_is}
use Rattle.step_script.specs.declared.expr.BinOp.TheVariants.{Div}
use Rattle.step_script.specs.Values.{clamped, quotient, bin_value}
use lib.Signed.{mag}

neg_mag : (r a : ℕ) → r ≤ suc a → mag (neg_ℤ (pos r)) ≤ a
neg_mag zero a h = omega arith
neg_mag (suc r) a h = omega arith

mag_quot : (a b : ℤ) → (b ≡ negsuc 0 → ⊥) → mag (int_div a b) ≤ mag a
mag_quot (pos a) (pos b) h = div-le_self a b
mag_quot (pos a) (negsuc b) h = let less : a / suc b ≤ suc a = omega (arith, div-le_self a (suc b)) in neg_mag _ a less
mag_quot (negsuc a) (pos b) h = neg_mag _ a (div-le_self (suc a) b)
mag_quot (negsuc a) (negsuc zero) h = absurd (h refl)
mag_quot (negsuc a) (negsuc (suc b)) h =
    let less : suc a / suc (suc b) < suc a = div-lt_self (omega arith) (omega arith) in omega arith

clamped_small : (z : ℤ) → mag z < 2 ^ 63 → clamped z ≡ z
clamped_small (pos n) h = ap pos (omega arith)
clamped_small (negsuc n) h = ap negsuc (omega arith)

quotient_is : (a b : ℤ) → (b ≡ pos 0 → ⊥) → quotient a b ≡ int_div a b
quotient_is a (pos zero) h = absurd (h refl)
quotient_is a (pos (suc b)) h = refl
quotient_is a (negsuc b) h = refl

pub divides : (a b : ℤ) → FitsSigned w64 a → FitsSigned w64 b → (b ≡ pos 0 → ⊥) → (b ≡ negsuc 0 → ⊥)
    → to_z w64 (of_z w64 (int_div (to_z w64 (of_z w64 a)) (to_z w64 (of_z w64 b)))) ≡ bin_value Div a b
divides a b fa fb none one =
    let less : mag a < 2 ^ 63 = fa.sfits in
    let small : mag (int_div a b) < 2 ^ 63 = omega (arith, mag_quot a b one) in
    quot_is w64 a b fa fb (record { sfits = small }) ∙ sym (clamped_small (int_div a b) small)
    ∙ ap clamped (sym (quotient_is a b none))
