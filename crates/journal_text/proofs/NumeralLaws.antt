-- Digits at the front of 32 places.
use Rattle.std.proofs.Common.{◌≡◌, ℕ, ◌+◌, ◌-◌, ◌/◌, ◌%◌, ◌^◌, ◌<◌, ◌≤◌, Bool, true, false, ltb, List, [], ◌∷◌, ◌++◌, length, drop, get_or, replicate, decimal, refl, sym, ap, subst, ◌∙◌, arith, append_assoc, length-append}
use Rattle.std.proofs.Math.ListN.{set}
use Rattle.std.proofs.lemmas.Fmt.{decimal_step, decimal_digit, decimal_nonempty}
use Rattle.std.proofs.lemmas.Bool.{ltb-true, ltb-false}
use Rattle.std.proofs.lemmas.List.{drop-replicate, set_at}
use Rattle.std.proofs.Math.Seq.{get_or-append_seam}
use Rattle.journal_text.specs.Numerals.{placed, AreDigits}
use Rattle.journal_text.proofs.IdLaws.{unsigned_length}

-- the places after the digits were written
text_is : (n : ℕ) (text : List ℕ) → n < 2 ^ 64 → text ≡ decimal n → AreDigits n (text ++ drop (length text) (replicate 32 0)) (length text)
text_is n text lt is =
    record {
      bytes = ap (λ (t : List ℕ). t ++ drop (length t) (replicate 32 0)) is ∙ ap (λ (z : List ℕ). decimal n ++ z) (drop-replicate (length (decimal n)) 32 0);
      width = ap length is;
      short = subst (λ (t : List ℕ). length t ≤ 20) (sym is) (unsigned_length n lt);
    }

pub of_is : (n : ℕ) (front text : List ℕ) → n < 2 ^ 64 → front ≡ text → text ≡ decimal n → AreDigits n (front ++ drop (length text) (replicate 32 0)) (length text)
of_is n front text lt same is = subst (λ (t : List ℕ). AreDigits n (t ++ drop (length text) (replicate 32 0)) (length text)) (sym same) (text_is n text lt is)

-- ---- the next number

-- the digits of a number, the last one apart, are those of each number with the same tenth part
record Front (n : ℕ) : Type 0 where
  pub front : List ℕ
  pub here : decimal n ≡ front ++ ((48 + n % 10) ∷ [])
  pub next : (m : ℕ) → m / 10 ≡ n / 10 → m < 2 ^ 64 → decimal m ≡ front ++ ((48 + m % 10) ∷ [])

one_digit : (m : ℕ) → m < 10 → decimal m ≡ (48 + m % 10) ∷ []
one_digit m lt = let same : m ≡ m % 10 = omega (arith, lt) in decimal_digit m lt ∙ ap (λ (k : ℕ). (48 + k) ∷ []) same

front_by : (n : ℕ) → n < 2 ^ 64 → (test : Bool) → ltb n 10 ≡ test → Front n
front_by n lt true e =
    let few : n < 10 = ltb-true n 10 e in
    record {
      front = [];
      here = one_digit n few;
      next = λ m same less. one_digit m (omega (arith, few, same));
    }
front_by n lt false e =
    let many : 10 ≤ n = ltb-false n 10 e in
    record {
      front = decimal (n / 10);
      here = decimal_step n many lt;
      next = λ m same less. decimal_step m (omega (arith, many, same)) less ∙ ap (λ (k : ℕ). decimal k ++ ((48 + m % 10) ∷ [])) same;
    }

front_of : (n : ℕ) → n < 2 ^ 64 → Front n
front_of n lt = front_by n lt (ltb n 10) refl

pub some_digits : (n len : ℕ) (digits : List ℕ) → n < 2 ^ 64 → AreDigits n digits len → 1 ≤ len
some_digits n len digits lt h = omega (arith, h.width, decimal_nonempty n lt)

-- where the last digit is not 9, the next number differs in it alone
pub next_digits : (n m len : ℕ) (digits : List ℕ) → AreDigits n digits len → m ≡ n + 1 → m < 2 ^ 64 → get_or digits (len - 1) 0 < 57
    → AreDigits m (set digits (len - 1) (get_or digits (len - 1) 0 + 1)) len
next_digits n m len digits h is lt low =
    let f = front_of n (omega (arith, is, lt)) in
    let last : ℕ = 48 + n % 10 in
    let zeros : List ℕ = replicate (32 - length (decimal n)) 0 in
    let all : digits ≡ f.front ++ last ∷ zeros = h.bytes ∙ (ap (λ (d : List ℕ). d ++ zeros) f.here ∙ append_assoc f.front (last ∷ []) zeros) in
    let width : len ≡ length f.front + 1 = h.width ∙ (ap length f.here ∙ length-append f.front (last ∷ [])) in
    let at : len - 1 ≡ length f.front = omega (arith, width) in
    let here : get_or digits (len - 1) 0 ≡ last = ap (λ (d : List ℕ). get_or d (len - 1) 0) all ∙ (ap (λ (i : ℕ). get_or (f.front ++ last ∷ zeros) i 0) at ∙ get_or-append_seam f.front last zeros 0) in
    let tens : m / 10 ≡ n / 10 = omega (arith, is, here, low) in
    let one : last + 1 ≡ 48 + m % 10 = omega (arith, is, here, low) in
    let text : decimal m ≡ f.front ++ ((48 + m % 10) ∷ []) = f.next m tens lt in
    let same : length (decimal m) ≡ length (decimal n) = omega (arith, ap length text, length-append f.front ((48 + m % 10) ∷ []), width, h.width) in
    let changed : set digits (len - 1) (get_or digits (len - 1) 0 + 1) ≡ f.front ++ (48 + m % 10) ∷ zeros =
    ap (λ (d : List ℕ). set d (len - 1) (get_or digits (len - 1) 0 + 1)) all
    ∙ (set_at f.front last zeros (get_or digits (len - 1) 0 + 1) (len - 1) (sym at)
    ∙ ap (λ (d : ℕ). f.front ++ d ∷ zeros) (ap (λ (d : ℕ). d + 1) here ∙ one)) in
    let whole : f.front ++ (48 + m % 10) ∷ zeros ≡ placed m =
    sym (append_assoc f.front ((48 + m % 10) ∷ []) zeros)
    ∙ (ap (λ (d : List ℕ). d ++ zeros) (sym text) ∙ ap (λ (k : ℕ). decimal m ++ replicate (32 - k) 0) (sym same)) in
    record { bytes = changed ∙ whole; width = h.width ∙ sym same; short = h.short }

pub two_digits : (n len : ℕ) (digits : List ℕ) → n < 2 ^ 64 → 10 ≤ n → AreDigits n digits len → 2 ≤ len
two_digits n len digits lt many h =
    let lead : 0 < length (decimal (n / 10)) = decimal_nonempty (n / 10) (omega (arith, lt)) in
    omega (arith, h.width, ap length (decimal_step n many lt), length-append (decimal (n / 10)) ((48 + n % 10) ∷ []), lead)

-- where only the last two digits differ
pub near_digits : (n m len : ℕ) (digits : List ℕ) → AreDigits n digits len → n < 2 ^ 64 → m < 2 ^ 64 → 10 ≤ n → 10 ≤ m → m / 100 ≡ n / 100
    → AreDigits m (set (set digits (len - 1 - 1) (48 + m / 10 % 10)) (len - 1) (48 + m % 10)) len
near_digits n m len digits h below lt many more same =
    let f = front_of (n / 10) (omega (arith, below)) in
    let a : ℕ = 48 + n / 10 % 10 in
    let b : ℕ = 48 + n % 10 in
    let c : ℕ = 48 + m / 10 % 10 in
    let d : ℕ = 48 + m % 10 in
    let zeros : List ℕ = replicate (32 - length (decimal n)) 0 in
    let old : decimal n ≡ f.front ++ a ∷ b ∷ [] =
    decimal_step n many below ∙ (ap (λ (l : List ℕ). l ++ b ∷ []) f.here ∙ append_assoc f.front (a ∷ []) (b ∷ [])) in
    let text : decimal m ≡ f.front ++ c ∷ d ∷ [] =
    decimal_step m more lt ∙ (ap (λ (l : List ℕ). l ++ d ∷ []) (f.next (m / 10) (omega (arith, same)) (omega (arith, lt))) ∙ append_assoc f.front (c ∷ []) (d ∷ [])) in
    let all : digits ≡ f.front ++ a ∷ b ∷ zeros = h.bytes ∙ (ap (λ (l : List ℕ). l ++ zeros) old ∙ append_assoc f.front (a ∷ b ∷ []) zeros) in
    let width : len ≡ length f.front + 2 = h.width ∙ (ap length old ∙ length-append f.front (a ∷ b ∷ [])) in
    let first : set digits (len - 1 - 1) c ≡ (f.front ++ c ∷ []) ++ b ∷ zeros =
    ap (λ (l : List ℕ). set l (len - 1 - 1) c) all
    ∙ (set_at f.front a (b ∷ zeros) c (len - 1 - 1) (omega (arith, width)) ∙ sym (append_assoc f.front (c ∷ []) (b ∷ zeros))) in
    let both : set (set digits (len - 1 - 1) c) (len - 1) d ≡ (f.front ++ c ∷ []) ++ d ∷ zeros =
    ap (λ (l : List ℕ). set l (len - 1) d) first
    ∙ set_at (f.front ++ c ∷ []) b zeros d (len - 1) (omega (arith, width, length-append f.front (c ∷ []))) in
    let long : length (decimal m) ≡ length (decimal n) = omega (arith, ap length text, length-append f.front (c ∷ d ∷ []), width, h.width) in
    let whole : (f.front ++ c ∷ []) ++ d ∷ zeros ≡ placed m =
    append_assoc f.front (c ∷ []) (d ∷ zeros)
    ∙ (sym (append_assoc f.front (c ∷ d ∷ []) zeros)
    ∙ (ap (λ (l : List ℕ). l ++ zeros) (sym text) ∙ ap (λ (k : ℕ). decimal m ++ replicate (32 - k) 0) (sym long))) in
    record { bytes = both ∙ whole; width = h.width ∙ sym long; short = h.short }
