use Rattle.std.proofs.Common.{rules, ◌≡◌, length, map, refl, sym, ◌∙◌}
use Rattle.std.proofs.lemmas.Result.{err_from_is_err_and}
use Rattle.std.proofs.lemmas.List.{map_push, length-map}
use Rattle.scenario_forms.specs.declared.error.TxnMember.TheVariants as members
use Rattle.scenario_forms.specs.declared.arrays.Owner.TheVariants.{Txn}
use Rattle.scenario_forms.specs.Ops.{op_view}
use Rattle.scenario_forms.specs.Arrays.{element_place}
use Rattle.scenario_forms.proofs.Folds.{form_goes_on, form_ends, is_done}
use Rattle.scenario_forms.proofs.arrays.script.Goals as goal

pub returns-in_err-op : goal.returns-in_err-op
returns-in_err-op c =
    let p = err_from_is_err_and c.from_residual.result c.from_residual.ensures.1 in
    let count : c.len.result ≡ length (map op_view c.loop-value.found.items) =
    (let plain : c.len.result ≡ length c.loop-value.found.items = search rules in plain
    ∙ sym (length-map c.loop-value.found.items op_view)) in
    rw (p.1, p.2) (form_ends (element_place (Txn c.args.i members.Script)) _ _ _ _ _ _ _ _ _ _ c.loop-value-test.true
    c.value-item.is count c.element.ensures refl c.in_err-op.ensures c.loop-value.invariant)

pub loop-value-preserved : goal.loop-value-preserved
loop-value-preserved c =
    let count : c.len.result ≡ length (map op_view c.loop-value.found.items) =
    (let plain : c.len.result ≡ length c.loop-value.found.items = search rules in plain
    ∙ sym (length-map c.loop-value.found.items op_view)) in
    rw (c.in_ok-push.ensures.items, map_push op_view c.loop-value.found.items)
    (form_goes_on (element_place (Txn c.args.i members.Script)) _ _ _ _ _ _ _ _ _ _ c.loop-value-test.true
    c.value-item.is count c.element.ensures refl c.in_ok-op.ensures c.loop-value.invariant)

pub returns : goal.returns
returns c = is_done _ _ _ _ _ c.loop-value-test.false c.loop-value.invariant
