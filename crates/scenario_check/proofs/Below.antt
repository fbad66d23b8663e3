-- One number more.
use Rattle.std.proofs.Common.{◌≡◌, ℕ, ◌+◌, List, ◌++◌, append_assoc, add-one, sym, ap, ◌∙◌}
use Rattle.scenario_check.specs.declared.kinds.Warning.{Warning}
use Rattle.scenario_check.specs.Warnings.{below}

pub one_more : (f : ℕ → List Warning) (start out later : List Warning) (k : ℕ) → out ≡ start ++ below f k
    → later ≡ out ++ f k → later ≡ start ++ below f (k + 1)
one_more f start out later k before after =
    after ∙ ap (λ (xs : List Warning). xs ++ f k) before ∙ append_assoc start (below f k) (f k)
    ∙ ap (λ (n : ℕ). start ++ below f n) (sym (add-one k))
