use Rattle.std.proofs.Common.{rules, ◌≡◌, length, Ok, w64, FitsSigned, sym, ap, ◌∙◌}
use Rattle.std.proofs.lemmas.Result.{err_from_is_err_and}
use Rattle.std.proofs.lemmas.Int.{to_z-of_z}
use Rattle.scenario_forms.specs.declared.error.TxnMember.TheVariants as members
use Rattle.scenario_forms.specs.declared.arrays.Owner.TheVariants.{Txn}
use Rattle.scenario_forms.specs.Arrays.{element_place}
use Rattle.scenario_forms.proofs.Folds.{form_goes_on, form_ends, fails_from, is_done}
use Rattle.scenario_forms.proofs.arrays.samples.Goals as goal

pub returns-in_err-sample : goal.returns-in_err-sample
returns-in_err-sample c =
    let p = err_from_is_err_and c.from_residual.result c.from_residual.ensures.1 in
    let count : c.len.result ≡ length c.loop-value.found.items = search rules in
    rw (p.1, p.2) (form_ends (element_place (Txn c.args.i members.Samples)) _ _ _ _ _ _ _ _ _ _ c.loop-value-test.true
    c.value-item.is count c.element.ensures c.as_i64.ensures (fails_from _ _ c.in_err-sample.ensures)
    c.loop-value.invariant)

pub loop-value-preserved : goal.loop-value-preserved
loop-value-preserved c =
    let fits : FitsSigned w64 c.in_ok-sample.sample = search rules in
    let count : c.len.result ≡ length c.loop-value.found.items = search rules in
    rw (c.in_ok-push.ensures.items) (form_goes_on (element_place (Txn c.args.i members.Samples)) _ _ _ _ _ _ _ _ _ _
    c.loop-value-test.true c.value-item.is count c.element.ensures c.as_i64.ensures (sym c.in_ok-sample.ensures
    ∙ ap Ok (sym (to_z-of_z w64 c.in_ok-sample.sample fits))) c.loop-value.invariant)

pub returns : goal.returns
returns c = is_done _ _ _ _ _ c.loop-value-test.false c.loop-value.invariant
