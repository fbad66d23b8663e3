-- Numbers at the front of a text.
use Rattle.std.proofs.Common.{◌≡◌, ℕ, pos, ◌^◌, ◌<◌, ◌≤◌, ◌+◌, ◌-◌, ◌%◌, List, [], ◌∷◌, ◌++◌, length, take, drop, get_or, Some, decimal, sym, ap, ◌∙◌, arith, length-take}
use Rattle.std.specs.Str.Parse.{digits_value, AllDigits}
use Rattle.std.proofs.Math.Nat.{pow-le-pow_right}
use Rattle.std.proofs.lemmas.Int.Digits.{digits_value-lt}
use Rattle.std.proofs.lemmas.List.{take-append-drop, append-nil, length-take-le, get_or-take}
use Rattle.line_fields.specs.Cuts.{next, field, Ends}
use Rattle.line_fields.specs.Numbers.{unsigned_of, short_of, signed_of}
use Rattle.line_fields.proofs.CutLaws.{rest_of, next_again}
use Rattle.line_fields.proofs.NumberLaws.{written, unsigned_found, unsigned_again, unsigned_lacks, short_again, signed_again}

-- a byte that is a digit, by its distance from `0`
pub digit_byte : (byte : ℕ) → byte < 256 → (byte + 208) % 256 ≤ 9 → (48 ≤ byte) × (byte ≤ 57) × ((byte + 208) % 256 + 48 ≡ byte)
digit_byte byte lt is = (omega (arith, lt, is), omega (arith, lt, is), omega (arith, lt, is))

-- a number of few digits
pub few_digits : (bs : List ℕ) (i n : ℕ) → i < 19 → n ≡ digits_value 10 (take i bs) → AllDigits 10 (take i bs) → n < 10 ^ 18
few_digits bs i n few is digits =
    let short : length (take i bs) ≤ 18 = omega (arith, few, length-take i bs) in
    omega (arith, is, digits_value-lt 10 (take i bs) digits, pow-le-pow_right {n = 10} (omega arith) short)

-- digits at the front without a leading zero are what is written of their number
pub front_written : (bs : List ℕ) (len n : ℕ) → len ≤ length bs → 0 < len → (get_or bs 0 0 ≡ 48 → len ≡ 1)
    → AllDigits 10 (take len bs) → n ≡ digits_value 10 (take len bs) → n < 2 ^ 64
    → bs ≡ decimal n ++ take (length bs - len) (drop len bs)
front_written bs len n within some lead digits value lt =
    let size : length (take len bs) ≡ len = length-take-le len bs within in
    let is : decimal n ≡ take len bs =
    written (take len bs) n (λ zero. size ∙ lead (sym (get_or-take len bs 0 0 some) ∙ zero)) (omega (arith, size, some), digits) value lt in
    sym (take-append-drop len bs) ∙ (ap (λ (w : List ℕ). w ++ drop len bs) (sym is)
    ∙ ap (λ (r : List ℕ). decimal n ++ r) (sym (rest_of len bs)))

only : (w ds rest : List ℕ) → w ≡ ds ++ rest → length rest < 1 → ds ≡ w
only w ds [] e lt = sym (e ∙ append-nil ds)
only w ds (b ∷ rest) e lt = absurd (omega (arith, lt))

-- a number that is all of a word
pub word_found : (w : List ℕ) (n : ℕ) (rest : List ℕ) → n < 2 ^ 64 → w ≡ decimal n ++ rest → length rest < 1 → Some n ≡ unsigned_of w
word_found w n rest lt e none = unsigned_found w n lt (only w (decimal n) rest e none)

pub next_found : (bs : List ℕ) (n : ℕ) (rest : List ℕ) → n < 2 ^ 64 → bs ≡ field (decimal n) ++ rest → Ends rest
    → Some (n, rest) ≡ next unsigned_of bs
next_found bs n rest lt e ends =
    sym (ap (next unsigned_of) e ∙ next_again unsigned_of (decimal n) rest n (unsigned_again n lt) (unsigned_lacks n lt) ends)

pub short_found : (bs : List ℕ) (n : ℕ) (rest : List ℕ) → n < 2 ^ 32 → bs ≡ field (decimal n) ++ rest → Ends rest
    → Some (n, rest) ≡ next short_of bs
short_found bs n rest lt e ends =
    sym (ap (next short_of) e ∙ next_again short_of (decimal n) rest n (short_again n lt) (unsigned_lacks n (omega arith)) ends)

pub signed_found : (bs : List ℕ) (n : ℕ) (rest : List ℕ) → n < 2 ^ 63 → bs ≡ field (decimal n) ++ rest → Ends rest
    → Some (pos n, rest) ≡ next signed_of bs
signed_found bs n rest lt e ends =
    sym (ap (next signed_of) e
    ∙ next_again signed_of (decimal n) rest (pos n) (signed_again (pos n) lt) (unsigned_lacks n (omega arith)) ends)
