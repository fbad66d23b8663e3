-- One more transaction.
use Rattle.std.proofs.Common.{◌≡◌, ◌+◌, [], ◌∷◌, List, ℕ, Bool, length, Result, Ok, Err, sym, ap, ◌∙◌, arith, length-append}
use Rattle.name_table.specs.Places.{place_in}
use Rattle.serde_json.specs.Data.{Data}
use Rattle.scenario_forms.specs.declared.error.FormError.{FormError}
use Rattle.scenario_forms.specs.Fields.{Places}
use Rattle.scenario_forms.specs.Reading.{◌>>=◌}
use Rattle.scenario_forms.specs.Txns.{Txn, Txns, with_txn, txn_name, txn_at, txn_step}

longer : (t t' : Txns) (n : Result (List ℕ) FormError) (r : Result Txn FormError)
    → (n >>= λ name. r >>= λ x. Ok (with_txn t name x)) ≡ Ok t' → length t'.names ≡ length t.names + 1
longer t t' (Ok name) (Ok x) is =
    let same : with_txn t name x ≡ t' = cc in
    ap (λ (u : Txns). length u.names) (sym same) ∙ omega (arith, length-append t.names (name ∷ []))
longer t t' (Ok name) (Err e) is = absurd cc
longer t t' (Err e) r is = absurd cc

pub one_more_name : (second : Bool) (items : Places) (t t' : Txns) (d : Data) → txn_step second items t d ≡ Ok t'
    → length t'.names ≡ length t.names + 1
unfolding txn_step
one_more_name second items t t' d is = longer t t' (txn_name second (place_in t.names) (length t.names) d)
    (txn_at items (length t.names) d) is
