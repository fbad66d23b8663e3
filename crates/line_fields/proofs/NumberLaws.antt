-- Numbers in decimal digits.
use Rattle.std.proofs.Common.{◌≡◌, ℕ, zero, suc, ℤ, pos, negsuc, ◌^◌, ◌<◌, ◌&&◌, ◌||◌, Bool, true, false, cond, ltb, nat_eq, List, [], ◌∷◌, length, drop, get_or, Option, Some, None, Result, Ok, Err, decimal, refl, sym, ap, subst, ◌∙◌, arith, rules}
use Rattle.std.specs.Char.{digit_value}
use Rattle.std.specs.Fmt.{signed_decimal}
use Rattle.std.specs.Prelude.{IfSome}
use Rattle.std.specs.Int.{IsInRange}
use Rattle.std.specs.Str.{IsUtf8, bytes_eq}
use Rattle.std.specs.Str.Parse.{digits_value, IsNumeral, without_leading_plus, AllDigits}
use Rattle.std.proofs.lemmas.Str.Parse.{IsNumeralModel, numerals_by_value, not_in_digits}
use Rattle.std.proofs.lemmas.Str.{IsUtf8-from_ascii}
use Rattle.std.proofs.lemmas.Fmt.{IsAscii-decimal, digits_value-decimal, digits_decimal, parse-decimal, decimal_nonempty, decimal-digits_value, decimal_digit, first_decimal}
use Rattle.std.proofs.lemmas.Slice.Eq.{bytes_eq-Decides}
use Rattle.std.proofs.lemmas.Bool.{ltb-true, lt-ltb, ne_eqb, eq-eqb, eqb-true}
use Rattle.rt_base.proofs.Padding.{both as both_true}
use Rattle.line_fields.specs.Cuts.{◌>>=◌, Lacks}
use Rattle.line_fields.specs.Numbers.{IsRead, is_led, unsigned_of, short_of, below_zero, signed_of, IsI64}
use Rattle.line_fields.proofs.CutLaws.{some_is, none_some, bind_some, chosen, Takes}

pub own : IsNumeralModel (AllDigits 10) (digits_value 10)
own = numerals_by_value (AllDigits 10) (search rules)

pub decimal_is_utf8 : (n : ℕ) → n < 2 ^ 64 → IsUtf8 (decimal n)
decimal_is_utf8 n lt = IsUtf8-from_ascii (decimal n) (IsAscii-decimal n lt)

-- what parsing a text of 64 bits asks
abbrev pub MayBeRead : List ℕ → Type 0
MayBeRead bs = IsNumeral 10 (without_leading_plus bs) × (digits_value 10 (without_leading_plus bs) < 2 ^ 64)

abbrev Read : Type 0
Read = Result ℕ (Unit {0})

pub number_ok : (n m : ℕ) (bs : List ℕ) → n < 2 ^ 64 → decimal n ≡ bs
    → MayBeRead bs × (m ≡ digits_value 10 (without_leading_plus bs)) → Some m ≡ Some n
number_ok n m bs lt e read =
    let r : Read = Ok m in
    let same : r ≡ Ok n = parse-decimal 64 n bs r lt lt (sym e) read in
    let is : m ≡ n = cc in
    ap (λ (k : ℕ). Some k) is

pub number_err : (n : ℕ) (bs : List ℕ) → n < 2 ^ 64 → decimal n ≡ bs → ¬ MayBeRead bs → ⊥
number_err n bs lt e read =
    let r : Read = Err tt in
    let same : r ≡ Ok n = parse-decimal 64 n bs r lt lt (sym e) read in
    absurd cc

-- ---- what stands at the front of a number

first_is_digit : (n b : ℕ) (bs : List ℕ) → n < 2 ^ 64 → decimal n ≡ b ∷ bs → nat_eq b 43 ≡ false
first_is_digit n b bs lt e =
    let digits : AllDigits 10 (b ∷ bs) = subst (AllDigits 10) e (digits_decimal own n lt) in
    ne_eqb b 43 (λ same. let k : digit_value 43 < 10 = subst (λ (x : ℕ). digit_value x < 10) same digits.0 in omega arith)

first_is_no_zero : (n b c : ℕ) (bs : List ℕ) → n < 2 ^ 64 → decimal n ≡ b ∷ c ∷ bs → nat_eq b 48 ≡ false
first_is_no_zero zero b c bs lt e =
    let lengths : 1 ≡ suc (suc (length bs)) = ap length (sym (decimal_digit 0 (omega arith)) ∙ e) in
    absurd (omega (arith, lengths))
first_is_no_zero (suc n) b c bs lt e =
    let above : 48 < b = subst (λ (w : List ℕ). 48 < get_or w 0 0) e (first_decimal (suc n) (omega arith) lt) in
    ne_eqb b 48 (λ same. omega (arith, same))

pub not_led : (w : List ℕ) (n : ℕ) → n < 2 ^ 64 → decimal n ≡ w → is_led w ≡ false
not_led [] n lt e = refl
not_led (b ∷ []) n lt e = first_is_digit n b [] lt e
not_led (b ∷ c ∷ bs) n lt e = rw (first_is_digit n b (c ∷ bs) lt e, first_is_no_zero n b c bs lt e) refl

pub written : (ds : List ℕ) (n : ℕ) → (get_or ds 0 0 ≡ 48 → length ds ≡ 1) → IsNumeral 10 ds → n ≡ digits_value 10 ds → n < 2 ^ 64 → decimal n ≡ ds
written ds n lead is value lt =
    let below : digits_value 10 ds < 2 ^ 64 = subst (λ (k : ℕ). k < 2 ^ 64) value lt in
    ap decimal value ∙ decimal-digits_value own ds is.1 is.0 lead below

no_plus : (b : ℕ) (bs : List ℕ) (n : ℕ) → nat_eq b 43 ≡ false → IsRead (b ∷ bs) n → IsNumeral 10 (b ∷ bs) × (n ≡ digits_value 10 (b ∷ bs))
no_plus b bs n other read =
    subst (λ (t : Bool). IsNumeral 10 (drop (cond t 1 0) (b ∷ bs)) × (n ≡ digits_value 10 (drop (cond t 1 0) (b ∷ bs)))) other (read.0, read.1)

neither : (a b : Bool) → (a || b) ≡ false → (a ≡ false) × (b ≡ false)
neither false b e = (refl, e)
neither true b e = absurd cc

-- a word that is not led and is parsed is written so
pub as_written : (w : List ℕ) (n : ℕ) → is_led w ≡ false → IsRead w n → decimal n ≡ w
as_written [] n led read = absurd (omega (arith, read.0.0))
as_written (b ∷ []) n led read =
    let here = no_plus b [] n led read in
    written (b ∷ []) n (λ _. refl) here.0 here.1 read.2
as_written (b ∷ c ∷ bs) n led read =
    let parts = neither (nat_eq b 43) (nat_eq b 48) led in
    let here = no_plus b (c ∷ bs) n parts.0 read in
    written (b ∷ c ∷ bs) n (λ same. let is : nat_eq b 48 ≡ true = eq-eqb b 48 same in absurd cc) here.0 here.1 read.2

-- ---- unsigned numbers

-- what is read is written so
pub unsigned_takes : Takes (λ (n : ℕ). n < 2 ^ 64) decimal unsigned_of
unfolding unsigned_of
unsigned_takes w n e =
    let v = digits_value 10 w in
    let parts = chosen (bytes_eq (decimal v) w && ltb v (2 ^ 64)) (Some v) n e in
    let tests = both_true (bytes_eq (decimal v) w) (ltb v (2 ^ 64)) parts.0 in
    subst (λ (k : ℕ). (k < 2 ^ 64) × (decimal k ≡ w)) (some_is v n parts.1) (ltb-true _ _ tests.1, (bytes_eq-Decides (decimal v) w).0 tests.0)

-- what is written is read
pub unsigned_again : (n : ℕ) → n < 2 ^ 64 → unsigned_of (decimal n) ≡ Some n
unfolding unsigned_of
unsigned_again n lt =
    let value : digits_value 10 (decimal n) ≡ n = digits_value-decimal own n lt in
    let same : bytes_eq (decimal n) (decimal n) ≡ true = (bytes_eq-Decides (decimal n) (decimal n)).1 refl in
    let fits : ltb n (2 ^ 64) ≡ true = lt-ltb n (2 ^ 64) lt in
    rw (value, same, fits) refl

-- a number is what the word is read as, or there is none
pub unsigned_found : (w : List ℕ) (n : ℕ) → n < 2 ^ 64 → decimal n ≡ w → Some n ≡ unsigned_of w
unsigned_found w n lt e = sym (ap unsigned_of (sym e) ∙ unsigned_again n lt)

none_unless : (w : List ℕ) (o : Option ℕ) → unsigned_of w ≡ o → ((n : ℕ) → n < 2 ^ 64 → decimal n ≡ w → ⊥) → o ≡ None
none_unless w None e never = refl
none_unless w (Some n) e never = let t = unsigned_takes w n e in absurd (never n t.0 t.1)

pub unsigned_none : (w : List ℕ) → ((n : ℕ) → n < 2 ^ 64 → decimal n ≡ w → ⊥) → None ≡ unsigned_of w
unsigned_none w never = sym (none_unless w (unsigned_of w) refl never)

pub led_is_none : (w : List ℕ) → is_led w ≡ true → None ≡ unsigned_of w
led_is_none w led = unsigned_none w (λ n lt e. let no : is_led w ≡ false = not_led w n lt e in absurd cc)

-- what parsing a word that is not led finds
pub read_is_unsigned : (w : List ℕ) (found : Option ℕ) → is_led w ≡ false → ((n : ℕ) → n < 2 ^ 64 → decimal n ≡ w → found ≡ Some n) → IfSome found (IsRead w) → found ≡ unsigned_of w
read_is_unsigned w None led finds read = unsigned_none w (λ n lt e. absurd (none_some n (finds n lt e)))
read_is_unsigned w (Some n) led finds read = unsigned_found w n read.2 (as_written w n led read)

-- ---- numbers of 32 bits

pub short_takes : Takes (λ (n : ℕ). n < 2 ^ 32) decimal short_of
unfolding short_of
short_takes w n e =
    let a = bind_some (unsigned_of w) (λ n. cond (ltb n (2 ^ 32)) (Some n) None) n e in
    let b = chosen (ltb a.0 (2 ^ 32)) (Some a.0) n a.2 in
    let t = unsigned_takes w a.0 a.1 in
    subst (λ (k : ℕ). (k < 2 ^ 32) × (decimal k ≡ w)) (some_is a.0 n b.1) (ltb-true _ _ b.0, t.1)

pub short_again : (n : ℕ) → n < 2 ^ 32 → short_of (decimal n) ≡ Some n
unfolding short_of
short_again n lt =
    let fits : ltb n (2 ^ 32) ≡ true = lt-ltb n (2 ^ 32) lt in
    rw (unsigned_again n (omega arith), fits) refl

-- ---- signed numbers

pub decimal_lacks : (byte n : ℕ) → ¬ IsInRange 48 57 byte → n < 2 ^ 64 → Lacks byte (decimal n)
decimal_lacks byte n other lt = not_in_digits own (decimal n) byte (digits_decimal own n lt) other

pub no_minus : ¬ IsInRange 48 57 45
no_minus h = omega (arith, h.0, h.1)

below_takes : (m : ℕ) (z : ℤ) → below_zero m ≡ Some z → IsI64 z × (signed_decimal z ≡ 45 ∷ decimal m)
below_takes zero z e = absurd (none_some z e)
below_takes (suc n) z e =
    let t = chosen (ltb n (2 ^ 63)) (Some (negsuc n)) z e in
    subst (λ (k : ℤ). IsI64 k × (signed_decimal k ≡ 45 ∷ decimal (suc n))) (some_is (negsuc n) z t.1) (ltb-true _ _ t.0, refl)

above_takes : (m : ℕ) (z : ℤ) → cond (ltb m (2 ^ 63)) (Some (pos m)) None ≡ Some z
    → IsI64 z × (signed_decimal z ≡ decimal m)
above_takes m z e =
    let t = chosen (ltb m (2 ^ 63)) (Some (pos m)) z e in
    subst (λ (k : ℤ). IsI64 k × (signed_decimal k ≡ decimal m)) (some_is (pos m) z t.1) (ltb-true _ _ t.0, refl)

abbrev above : ℕ → Option ℤ
above n = cond (ltb n (2 ^ 63)) (Some (pos n)) None

signed_takes_at : (b : ℕ) (bs : List ℕ) (z : ℤ) (test : Bool) → nat_eq b 45 ≡ test
    → cond test (unsigned_of bs >>= below_zero) (unsigned_of (b ∷ bs) >>= above) ≡ Some z
    → IsI64 z × (signed_decimal z ≡ b ∷ bs)
signed_takes_at b bs z true is e =
    let a = bind_some (unsigned_of bs) below_zero z e in
    let t = below_takes a.0 z a.2 in
    let minus : b ≡ 45 = eqb-true b 45 is in
    (t.0, t.1 ∙ ap (λ (r : List ℕ). 45 ∷ r) (unsigned_takes bs a.0 a.1).1 ∙ ap (λ (c : ℕ). c ∷ bs) (sym minus))
signed_takes_at b bs z false is e =
    let a = bind_some (unsigned_of (b ∷ bs)) above z e in
    let t = above_takes a.0 z a.2 in
    (t.0, t.1 ∙ (unsigned_takes (b ∷ bs) a.0 a.1).1)

pub signed_takes : Takes IsI64 signed_decimal signed_of
unfolding signed_of
signed_takes [] z e = absurd (none_some z e)
signed_takes (b ∷ bs) z e = signed_takes_at b bs z (nat_eq b 45) refl e

signed_digits : (w : List ℕ) (n : ℕ) → unsigned_of w ≡ Some n → Lacks 45 w → 0 < length w → signed_of w ≡ above n
unfolding signed_of
signed_digits [] n e lacks some = absurd (omega arith)
signed_digits (b ∷ bs) n e lacks some =
    let no : nat_eq b 45 ≡ false = ne_eqb b 45 (lacks 0 (omega arith)) in
    rw (no, e) refl

pub signed_again : (z : ℤ) → IsI64 z → signed_of (signed_decimal z) ≡ Some z
unfolding signed_of
signed_again (pos n) lt =
    let fits : ltb n (2 ^ 63) ≡ true = lt-ltb n (2 ^ 63) lt in
    signed_digits (decimal n) n (unsigned_again n (omega arith)) (decimal_lacks 45 n no_minus (omega arith)) (decimal_nonempty n (omega arith)) ∙ rw fits refl
signed_again (negsuc n) lt =
    let fits : ltb n (2 ^ 63) ≡ true = lt-ltb n (2 ^ 63) lt in
    rw (unsigned_again (suc n) (omega arith), fits) refl

-- ---- no blanks, and how long

no_digit : ¬ IsInRange 48 57 32
no_digit h = omega (arith, h.0, h.1)

pub unsigned_lacks : (n : ℕ) → n < 2 ^ 64 → Lacks 32 (decimal n)
unsigned_lacks n lt = decimal_lacks 32 n no_digit lt

pub short_lacks : (n : ℕ) → n < 2 ^ 32 → Lacks 32 (decimal n)
short_lacks n lt = unsigned_lacks n (omega arith)

minus_lacks : (w : List ℕ) → Lacks 32 w → Lacks 32 (45 ∷ w)
minus_lacks w lacks zero lt = λ same. absurd (omega (arith, same))
minus_lacks w lacks (suc i) lt = lacks i (omega arith)

pub signed_lacks : (z : ℤ) → IsI64 z → Lacks 32 (signed_decimal z)
signed_lacks (pos n) lt = unsigned_lacks n (omega arith)
signed_lacks (negsuc n) lt = minus_lacks (decimal (suc n)) (unsigned_lacks (suc n) (omega arith))
