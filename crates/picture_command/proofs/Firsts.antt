-- Values of a function, one by one.
use Rattle.std.proofs.Common.{◌≡◌, ℕ, ◌+◌, List, [], ◌∷◌, ◌++◌, Option, Some, sym, ap, ◌∙◌, add-one}
use Rattle.std.specs.Option.{unwrap_or}
use Rattle.picture_command.specs.Limits.{firsts}

-- one value more
pub firsts_more : (f : ℕ → ℕ) (out new : List ℕ) (i x : ℕ) → new ≡ out ++ x ∷ [] → x ≡ f i → out ≡ firsts f i
    → new ≡ firsts f (i + 1)
firsts_more f out new i x is e so =
    rw (add-one i) (is ∙ (ap (λ (v : ℕ). out ++ v ∷ []) e ∙ ap (λ (o : List ℕ). o ++ f i ∷ []) so))

-- what there is
pub there : (o : Option ℕ) (x : ℕ) → o ≡ Some x → x ≡ unwrap_or o 0
there o x h = sym (ap (λ (p : Option ℕ). unwrap_or p 0) h)
