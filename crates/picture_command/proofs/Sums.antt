-- Texts, one by one.
use Rattle.std.proofs.Common.{◌≡◌, ℕ, ◌+◌, List, ◌++◌, ap, ◌∙◌, add-one, append_assoc}
use Rattle.picture_command.specs.Tables.{lines_below}

-- one text more
pub more : (f : ℕ → List ℕ) (before out new : List ℕ) (i : ℕ) → new ≡ out ++ f i → out ≡ before ++ lines_below f i
    → new ≡ before ++ lines_below f (i + 1)
more f before out new i is so =
    rw (add-one i) (is ∙ ap (λ (o : List ℕ). o ++ f i) so ∙ append_assoc before (lines_below f i) (f i))
