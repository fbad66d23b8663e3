-- Numbers in decimal digits, without leading zeros.
use Rattle.std.specs.Prelude.{ℕ, zero, suc, ℤ, pos, negsuc, ◌^◌, ◌<◌, ◌≡◌, ◌&&◌, ◌||◌, ◌==◌, Bool, false, List, [], ◌∷◌, Option, Some, None, option_and_then, nat_lt, if◌then◌else◌, decimal}
use Rattle.std.specs.Str.{bytes_eq}
use Rattle.std.specs.Str.Parse.{digits_value, IsNumeral, without_leading_plus}
use Rattle.line_fields.specs.Cuts.{◌>>=◌}

-- the number of 64 bits whose decimal digits these are
unfoldable pub unsigned_of : List ℕ → Option ℕ
unsigned_of w =
    if bytes_eq (decimal (digits_value 10 w)) w && nat_lt (digits_value 10 w) (2 ^ 64) then Some (digits_value 10 w) else None

-- whether a word has a plus, or a zero before something else, at its front
abbrev pub is_led : List ℕ → Bool
is_led [] = false
is_led (b ∷ []) = b == 43
is_led (b ∷ c ∷ bs) = (b == 43) || (b == 48)

-- what a text tells that was parsed as this number of 64 bits
abbrev pub IsRead : List ℕ → ℕ → Type 0
IsRead bs n = IsNumeral 10 (without_leading_plus bs) × (n ≡ digits_value 10 (without_leading_plus bs)) × (n < 2 ^ 64)

-- the same of 32 bits
unfoldable pub short_of : List ℕ → Option ℕ
short_of w = unsigned_of w >>= λ n. if nat_lt n (2 ^ 32) then Some n else None

-- a minus, and a number other than 0
abbrev pub below_zero : ℕ → Option ℤ
below_zero zero = None
below_zero (suc n) = if nat_lt n (2 ^ 63) then Some (negsuc n) else None

-- the signed number of 64 bits whose digits these are
unfoldable pub signed_of : List ℕ → Option ℤ
signed_of [] = None
signed_of (b ∷ bs) =
    if b == 45 then option_and_then below_zero (unsigned_of bs) else option_and_then (λ n. if nat_lt n (2 ^ 63) then Some (pos n) else None) (unsigned_of (b ∷ bs))

-- the range of i64
abbrev pub IsI64 : ℤ → Type 0
IsI64 (pos n) = n < 2 ^ 63
IsI64 (negsuc n) = n < 2 ^ 63
