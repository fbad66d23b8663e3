use Rattle.std.proofs.Common.{rules, ◌≡◌, length, map, sym, ap, ◌∙◌}
use Rattle.std.proofs.lemmas.Result.{err_from_is_err_and}
use Rattle.std.proofs.lemmas.List.{map_push, length-map}
use Rattle.name_table.specs.Places.{place_in}
use Rattle.scenario_forms.specs.Sets.{set_step, set_view}
use Rattle.scenario_forms.proofs.Folds.{goes_on_to, ends, is_done}
use Rattle.scenario_forms.proofs.SetSteps.{set_steps, set_fails}
use Rattle.scenario_forms.proofs.sets.sets.Goals as goal

pub returns-in_err-set : goal.returns-in_err-set
returns-in_err-set c =
    let p = err_from_is_err_and c.from_residual.result c.from_residual.ensures.1 in
    let plain : c.len.result ≡ length c.loop-value.found.items = search rules in
    rw (p.1, p.2) (ends (set_step (place_in c.args.items.now)) _ (map set_view c.loop-value.found.items) _ _ _ _
    c.loop-value-test.true c.value-item.is
    (set_fails _ _ _ _ _ (plain ∙ sym (length-map c.loop-value.found.items set_view)) c.in_err-set.ensures)
    c.loop-value.invariant)

pub loop-value-preserved : goal.loop-value-preserved
loop-value-preserved c =
    let plain : c.len.result ≡ length c.loop-value.found.items = search rules in
    goes_on_to (set_step (place_in c.args.items.now)) (map set_view c.loop-value.found.items) _ _ _ _ _ _
    c.loop-value-test.true c.value-item.is
    (set_steps _ _ _ _ _ (plain ∙ sym (length-map c.loop-value.found.items set_view)) c.in_ok-set.ensures)
    (ap (map set_view) c.in_ok-push.ensures.items ∙ map_push set_view c.loop-value.found.items _) c.loop-value.invariant

pub returns : goal.returns
returns c = is_done _ _ _ _ _ c.loop-value-test.false c.loop-value.invariant
