-- The digits of a number at the front of 32 places.
use Rattle.std.specs.Prelude.{◌≡◌, ℕ, ◌≤◌, ◌-◌, List, ◌++◌, length, decimal, replicate}

-- the digits of a number, and zeros after them
abbrev pub placed : ℕ → List ℕ
placed number = decimal number ++ replicate (32 - length (decimal number)) 0

pub record AreDigits (number : ℕ) (digits : List ℕ) (len : ℕ) : Type 0 where
  pub bytes : digits ≡ placed number
  pub width : len ≡ length (decimal number)
  pub short : len ≤ 20
