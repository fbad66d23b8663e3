use Rattle.std.proofs.Common.{ℕ, List, Ok, Result, sym, ap, ◌∙◌}
use Rattle.std.proofs.lemmas.Result.{err_from_is_err_and}
use Rattle.step_script.specs.declared.releases.Releases.TheVariants.{At}
use Rattle.scenario_forms.specs.declared.error.FormError.{FormError}
use Rattle.scenario_forms.specs.Reading.{◌>>=◌}
use Rattle.serde_json.specs.View.{view, items_view}
use Rattle.scenario_forms.proofs.Folds.{fails_with, fails_along, fails_from}
use Rattle.scenario_forms.proofs.Pairs.{listed, fixed_by_ticks}
use Rattle.scenario_forms.proofs.txn.fixed.Goals as goal

pub returns-in_err-are_listed : goal.returns-in_err-are_listed
returns-in_err-are_listed c =
    let p = err_from_is_err_and c.from_residual-in_err-are_listed.result
    c.from_residual-in_err-are_listed.ensures.1 in
    let there = rw c.of_txn.ensures at c.in_ok-values.ensures in
    rw (p.1, p.2) (fails_along _ _ _ (sym (fixed_by_ticks c.args.i (view c.args.value.now)
    (items_view c.in_ok-values.values.now) c.in_ok-found.found.items there c.in_ok-found.ensures))
    (fails_with _ _ (listed c.in_ok-found.found.items) (fails_from _ _ c.in_err-are_listed.ensures)))

pub returns : goal.returns
returns c =
    let there = rw c.of_txn.ensures at c.in_ok-values.ensures in
    fixed_by_ticks c.args.i (view c.args.value.now) (items_view c.in_ok-values.values.now)
    c.in_ok-found.found.items there c.in_ok-found.ensures
    ∙ ap (λ (r : Result (Unit {0}) FormError). r >>= listed c.in_ok-found.found.items)
    (sym c.in_ok-are_listed.ensures) ∙ ap (λ (l : List ℕ). Ok (At l)) (sym c.of.ensures)
