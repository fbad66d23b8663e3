use Rattle.std.proofs.Common.{sym, ◌∙◌}
use Rattle.std.proofs.lemmas.Result.{err_from_is_err_and}
use Rattle.set_admission.proofs.Tables.{order-inside, refusal-first, refusal-old, refusal-apart, refusal-none}
use Rattle.set_admission.proofs.admission.bounds_of.Goals as goal

pub returns-in_err-responses-clause-err : goal.returns-in_err-responses-clause-err
returns-in_err-responses-clause-err c =
    let p = err_from_is_err_and c.from_residual-in_err-responses.result c.from_residual-in_err-responses.ensures.1 in
    rw (p.1, p.2) (refusal-first c.args.set.now _ c.in_err-responses.ensures.err)

pub first_too_old-requires-clause-order : goal.first_too_old-requires-clause-order
first_too_old-requires-clause-order c = order-inside c.args.set.now c.deref-4.result.now (c.deref-4.ensures.value ∙ c.in_ok-order.ensures)

pub returns-in-Some-clause-err : goal.returns-in-Some-clause-err
returns-in-Some-clause-err c = refusal-old c.args.set.now _ c.deref-4.result.now c.in-Some.error c.in_ok-responses.ensures.ok (c.deref-4.ensures.value ∙ c.in_ok-order.ensures) c.in-Some.ensures

pub first_too_apart-requires-clause-order : goal.first_too_apart-requires-clause-order
first_too_apart-requires-clause-order c = order-inside c.args.set.now c.deref-6.result.now (c.deref-6.ensures.value ∙ c.in_ok-order.ensures)

pub returns-in-Some-first_too_apart-clause-err : goal.returns-in-Some-first_too_apart-clause-err
returns-in-Some-first_too_apart-clause-err c =
    refusal-apart c.args.set.now _ c.deref-4.result.now c.deref-6.result.now c.in-Some-first_too_apart.error c.in_ok-responses.ensures.ok
    (c.deref-4.ensures.value ∙ c.in_ok-order.ensures) (sym c.first_too_old.ensures ∙ c.in_default.is)
    (c.deref-6.ensures.value ∙ c.in_ok-order.ensures) c.in-Some-first_too_apart.ensures

pub returns-clause-admitted : goal.returns-clause-admitted
returns-clause-admitted c =
    refusal-none c.args.set.now _ c.deref-4.result.now c.deref-6.result.now c.in_ok-responses.ensures.ok
    (c.deref-4.ensures.value ∙ c.in_ok-order.ensures) (sym c.first_too_old.ensures ∙ c.in_default.is)
    (c.deref-6.ensures.value ∙ c.in_ok-order.ensures) (sym c.first_too_apart.ensures ∙ c.in_default-first_too_apart.is)
