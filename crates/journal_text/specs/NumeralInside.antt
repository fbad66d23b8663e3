-- A numeral gives its fields back.
use Rattle.std.proofs.Common.{◌≡◌, ℕ, List, length, decimal, sym, ap, ◌∙◌}
use Rattle.journal_text.specs.Numerals.{placed, AreDigits}
use Rattle.journal_text.specs.declared.numeral.Numeral.TheInside.{Inside}

abbrev made : ℕ → List ℕ → ℕ → Inside
made n b k = record { number = n; digits = b; len = k }

pub same_inside : (n : Inside) → AreDigits n.number n.digits n.len
    → record { number = n.number; digits = placed n.number; len = length (decimal n.number) } ≡ n
same_inside n h =
    ap (λ (b : List ℕ). made n.number b (length (decimal n.number))) (sym h.bytes) ∙ ap (λ (k : ℕ). made n.number n.digits k) (sym h.width)
