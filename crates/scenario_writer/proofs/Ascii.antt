-- A name is a text.
use Rattle.std.proofs.Common.{◌≡◌, ℕ, zero, suc, ◌<◌, List, [], ◌∷◌, true, arith}
use Rattle.std.proofs.lemmas.Bool.{and_parts}
use Rattle.std.proofs.lemmas.Bool.Decides.{nat_tests}
use Rattle.std.proofs.lemmas.Str.{IsUtf8-from_ascii}
use Rattle.std.specs.List.{list_all}
use Rattle.std.specs.Str.{IsAscii, IsUtf8}
use Rattle.rt_base.specs.Names.{is_letter, is_name_byte, is_name}

low_letter : (b : ℕ) → is_letter b ≡ true → b < 128
low_letter b h = grind (arith, nat_tests)

low_byte : (b : ℕ) → is_name_byte b ≡ true → b < 128
low_byte b h = grind (arith, nat_tests)

low_bytes : (bs : List ℕ) → list_all is_name_byte bs ≡ true → IsAscii bs
low_bytes [] h i = omega arith
low_bytes (b ∷ bs) h zero = low_byte b (and_parts _ _ h).0
low_bytes (b ∷ bs) h (suc i) = low_bytes bs (and_parts _ _ h).1 i

low_name : (bs : List ℕ) → is_name bs ≡ true → IsAscii bs
low_name [] h i = omega arith
low_name (b ∷ bs) h zero = low_letter b (and_parts _ _ (and_parts _ _ h).0).0
low_name (b ∷ bs) h (suc i) = low_bytes bs (and_parts _ _ h).1 i

pub name_text : (bs : List ℕ) → is_name bs ≡ true → IsUtf8 bs
name_text bs h = IsUtf8-from_ascii bs (low_name bs h)
