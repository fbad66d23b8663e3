use Rattle.std.proofs.Common.{rules, ◌≡◌, length, refl, sym}
use Rattle.std.proofs.lemmas.Result.{err_from_is_err_and}
use Rattle.scenario_forms.specs.Arrays.{element_place}
use Rattle.scenario_forms.proofs.Folds.{form_goes_on, form_ends, fails_from, is_done}
use Rattle.scenario_forms.proofs.arrays.items_named.Goals as goal

pub returns-in_err-item : goal.returns-in_err-item
returns-in_err-item c =
    let p = err_from_is_err_and c.from_residual.result c.from_residual.ensures.1 in
    let count : c.len.result ≡ length c.loop-value.found.items = search rules in
    rw (p.1, p.2) (form_ends (element_place c.args.owner) _ _ _ _ _ _ _ _ _ _ c.loop-value-test.true c.value-item.is
    count c.element.ensures refl (fails_from _ _ c.in_err-item.ensures) c.loop-value.invariant)

pub loop-value-preserved : goal.loop-value-preserved
loop-value-preserved c =
    let count : c.len.result ≡ length c.loop-value.found.items = search rules in
    rw (c.in_ok-push.ensures.items) (form_goes_on (element_place c.args.owner) _ _ _ _ _ _ _ _ _ _
    c.loop-value-test.true c.value-item.is count c.element.ensures refl (sym c.in_ok-item.ensures)
    c.loop-value.invariant)

pub returns : goal.returns
returns c = is_done _ _ _ _ _ c.loop-value-test.false c.loop-value.invariant
