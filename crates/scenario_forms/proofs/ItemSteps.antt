-- One more item.
use Rattle.std.proofs.Common.{◌≡◌, ◌+◌, [], ◌∷◌, List, ℕ, length, Result, Ok, Err, sym, ap, ◌∙◌, arith, length-append}
use Rattle.name_table.specs.Places.{place_in}
use Rattle.item_model.specs.declared.decl.ItemDecl.{ItemDecl}
use Rattle.serde_json.specs.Data.{Data}
use Rattle.scenario_forms.specs.declared.error.FormError.{FormError}
use Rattle.scenario_forms.specs.Reading.{◌>>=◌}
use Rattle.scenario_forms.specs.Items.{Table, with_item, item_at, item_step}

longer : (t t' : Table) (r : Result (List ℕ × ItemDecl) FormError) → (r >>= λ x. Ok (with_item t x)) ≡ Ok t'
    → length t'.names ≡ length t.names + 1
longer t t' (Ok x) is =
    let same : with_item t x ≡ t' = cc in
    ap (λ (u : Table). length u.names) (sym same) ∙ omega (arith, length-append t.names (x.0 ∷ []))
longer t t' (Err e) is = absurd cc

pub one_more_name : (t t' : Table) (d : Data) → item_step t d ≡ Ok t' → length t'.names ≡ length t.names + 1
unfolding item_step
one_more_name t t' d is = longer t t' (item_at (place_in t.names) (length t.names) d) is
