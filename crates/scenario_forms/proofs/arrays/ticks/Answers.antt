use Rattle.std.proofs.Common.{rules, ◌≡◌, length, sym}
use Rattle.std.proofs.lemmas.Result.{err_from_is_err_and}
use Rattle.scenario_forms.specs.declared.error.TxnMember.TheVariants as members
use Rattle.scenario_forms.specs.declared.arrays.Owner.TheVariants.{Txn}
use Rattle.scenario_forms.specs.Arrays.{element_place}
use Rattle.scenario_forms.proofs.Folds.{form_goes_on, form_ends, fails_from, is_done}
use Rattle.scenario_forms.proofs.arrays.ticks.Goals as goal

pub returns-in_err-tick : goal.returns-in_err-tick
returns-in_err-tick c =
    let p = err_from_is_err_and c.from_residual.result c.from_residual.ensures.1 in
    let count : c.len.result ≡ length c.loop-value.found.items = search rules in
    rw (p.1, p.2) (form_ends (element_place (Txn c.args.i members.Releases)) _ _ _ _ _ _ _ _ _ _
    c.loop-value-test.true c.value-item.is count c.element.ensures c.whole_number.ensures
    (fails_from _ _ c.in_err-tick.ensures) c.loop-value.invariant)

pub loop-value-preserved : goal.loop-value-preserved
loop-value-preserved c =
    let count : c.len.result ≡ length c.loop-value.found.items = search rules in
    rw (c.in_ok-push.ensures.items) (form_goes_on (element_place (Txn c.args.i members.Releases)) _ _ _ _ _ _ _ _ _ _
    c.loop-value-test.true c.value-item.is count c.element.ensures c.whole_number.ensures
    (sym c.in_ok-tick.ensures) c.loop-value.invariant)

pub returns : goal.returns
returns c = is_done _ _ _ _ _ c.loop-value-test.false c.loop-value.invariant
