-- The first place of a byte, as a search over many bytes at a time tells it.
use Rattle.std.proofs.Common.{◌≡◌, ℕ, ◌<◌, Bool, true, false, ltb, List, length, get_or, Option, Some, None, refl, sym, arith, rules}
use Rattle.std.specs.Prelude.{◌==◌, position}
use Rattle.std.specs.List.{position_or_len}
use Rattle.std.proofs.lemmas.List.Sums.{position_or_len_is}
use Rattle.memchr.specs.Find.{IsFirstByte, is_byte}
use Rattle.line_fields.proofs.CutLaws.{position_at}

not_true : (b : Bool) → (b ≡ true → ⊥) → b ≡ false
not_true true h = absurd (h refl)
not_true false h = refl

not_below : (n : ℕ) → ltb n n ≡ false
not_below n = search rules

none_here : (p : ℕ → Bool) (bs : List ℕ) → ((k : ℕ) → k < length bs → p (get_or bs k 0) ≡ false) → None ≡ position p bs
none_here p bs before =
    let at : position_or_len p bs ≡ length bs = position_or_len_is p bs (length bs) 0 (omega arith) before (λ lt. absurd (omega (arith, lt))) in
    rw (at, not_below (length bs)) refl

pub position_far : (byte : ℕ) (bs : List ℕ) (r : Option ℕ) → IsFirstByte (is_byte byte) bs r → r ≡ position (λ b. b == byte) bs
position_far byte bs None h = none_here (λ b. b == byte) bs (λ k lt. not_true _ (λ is. h k (omega arith) lt is))
position_far byte bs (Some k) h = sym (position_at (λ b. b == byte) bs k 0 h.0.high h.1 (λ j lt. not_true _ (λ is. h.0.before j (omega arith) lt is)))
