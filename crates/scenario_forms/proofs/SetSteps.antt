-- One more relative set.
use Rattle.std.proofs.Common.{◌≡◌, ℕ, List, [], ◌∷◌, ◌++◌, length, Result, Ok, sym, ap, ◌∙◌}
use Rattle.serde_json.specs.Data.{Data}
use Rattle.scenario_forms.specs.declared.error.FormError.{FormError}
use Rattle.scenario_forms.specs.Fields.{Places}
use Rattle.scenario_forms.specs.Reading.{◌>>=◌, Fails}
use Rattle.scenario_forms.specs.Sets.{Together, set_at, set_step}
use Rattle.scenario_forms.proofs.Folds.{fails_with, fails_along}

at_count : (items : Places) (acc : List Together) (n : ℕ) (d : Data) → n ≡ length acc
    → set_at items (length acc) d ≡ set_at items n d
at_count items acc n d e = ap (λ (k : ℕ). set_at items k d) (sym e)

pub set_steps : (items : Places) (acc : List Together) (n : ℕ) (d : Data) (x : Together) → n ≡ length acc
    → set_at items n d ≡ Ok x → set_step items acc d ≡ Ok (acc ++ x ∷ [])
unfolding set_step
set_steps items acc n d x e is = ap (λ (r : Result Together FormError). r >>= λ y. Ok (acc ++ y ∷ []))
    (at_count items acc n d e ∙ is)

pub set_fails : (e : FormError) (items : Places) (acc : List Together) (n : ℕ) (d : Data) → n ≡ length acc
    → Fails e (set_at items n d) → Fails e (set_step items acc d)
unfolding set_step
set_fails e items acc n d same failed = fails_with e _ _ (fails_along e _ _ (sym (at_count items acc n d same)) failed)
