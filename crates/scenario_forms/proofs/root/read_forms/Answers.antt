use Rattle.std.proofs.Common.{List, Result, sym, ap, ◌∙◌}
use Rattle.std.proofs.lemmas.Result.{err_from_is_err_and}
use Rattle.scenario_forms.specs.declared.error.FormError.{FormError}
use Rattle.scenario_forms.specs.Reading.{◌>>=◌}
use Rattle.scenario_forms.specs.Items.{table_view}
use Rattle.scenario_forms.specs.Sets.{Together}
use Rattle.scenario_forms.specs.Txns.{Txns}
use Rattle.scenario_forms.proofs.Folds.{fails_with, fails_along}
use Rattle.scenario_forms.proofs.Pairs.{formed, forms_by_uses}
use Rattle.scenario_forms.proofs.root.read_forms.Goals as goal

pub returns-in_err-txns : goal.returns-in_err-txns
returns-in_err-txns c =
    let p = err_from_is_err_and c.from_residual-in_err-txns.result c.from_residual-in_err-txns.ensures.1 in
    rw (p.1, p.2) (fails_along _ _ _ (sym (forms_by_uses _ c.in_ok-version.version (table_view c.in_ok-items.items)
    (sym c.in_ok-version.ensures) c.in_ok-items.ensures))
    (fails_with _ _ (formed c.in_ok-version.version (table_view c.in_ok-items.items)) c.in_err-txns.ensures))

pub returns : goal.returns
returns c = forms_by_uses _ c.in_ok-version.version (table_view c.in_ok-items.items) (sym c.in_ok-version.ensures)
    c.in_ok-items.ensures
    ∙ ap (λ (r : Result (Txns × List Together) FormError). r >>= formed c.in_ok-version.version
    (table_view c.in_ok-items.items)) c.in_ok-txns.ensures
