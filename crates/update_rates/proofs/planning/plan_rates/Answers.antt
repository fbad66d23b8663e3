use Rattle.std.proofs.Common.{◌≡◌, None, ◌∙◌}
use Rattle.std.proofs.lemmas.Result.{err_from_is_err_and}
use Rattle.txn_compiler.specs.Kept.{set_of, kept}
use Rattle.update_rates.specs.Updaters.{updaters}
use Rattle.update_rates.specs.Refusal.{too_tight}
use Rattle.update_rates.proofs.Updating.{steps-few}
use Rattle.update_rates.proofs.Admitting.{IsRatable}
use Rattle.update_rates.proofs.Planned.{refused-plain, refused-other, refused-tight, unrefused, rated-is, best-rates, tells}
use Rattle.update_rates.proofs.planning.plan_rates.Goals as goal

pub returns-in_err-set-clause-refused : goal.returns-in_err-set-clause-refused
returns-in_err-set-clause-refused c =
    let p = err_from_is_err_and c.from_residual.result c.from_residual.ensures.1 in
    rw (p.1, p.2) (refused-plain (kept (set_of c.args.items.items c.args.txns.items c.args.together.items)) _ c.in_err-set.ensures.refused)

pub returns-in_err-updaters-clause-refused : goal.returns-in_err-updaters-clause-refused
returns-in_err-updaters-clause-refused c =
    let p = err_from_is_err_and c.from_residual-in_err-updaters.result c.from_residual-in_err-updaters.ensures.1 in
    rw (p.1, p.2)
    (refused-other (kept (set_of c.args.items.items c.args.txns.items c.args.together.items)) c.in_ok-set.set c.in_ok-set.ensures.set _ c.in_ok-set.ensures.passed c.in_err-updaters.ensures.err)

pub rates_of-requires-clause-steps : goal.rates_of-requires-clause-steps
rates_of-requires-clause-steps c = rw (c.deref.ensures.value, c.in_ok-updaters.ensures.ok) (steps-few c.in_ok-set.set c.is_compiled.ensures)

pub returns-in_err-rates-clause-refused : goal.returns-in_err-rates-clause-refused
returns-in_err-rates-clause-refused c =
    let p = err_from_is_err_and c.from_residual-in_err-rates.result c.from_residual-in_err-rates.ensures.1 in
    rw (p.1, p.2)
    (refused-tight (kept (set_of c.args.items.items c.args.txns.items c.args.together.items)) c.in_ok-set.set c.in_ok-set.ensures.set c.deref.result.now _ c.in_ok-set.ensures.passed
    c.in_ok-updaters.ensures.passed (c.deref.ensures.value ∙ c.in_ok-updaters.ensures.ok) c.in_err-rates.ensures.err)

pub returns-in_err-rates-clause-tight : goal.returns-in_err-rates-clause-tight
returns-in_err-rates-clause-tight c =
    let p = err_from_is_err_and c.from_residual-in_err-rates.result c.from_residual-in_err-rates.ensures.1 in
    rw (p.1, p.2)
    (tells (kept (set_of c.args.items.items c.args.txns.items c.args.together.items)) _
    (refused-tight (kept (set_of c.args.items.items c.args.txns.items c.args.together.items)) c.in_ok-set.set c.in_ok-set.ensures.set c.deref.result.now _ c.in_ok-set.ensures.passed
    c.in_ok-updaters.ensures.passed (c.deref.ensures.value ∙ c.in_ok-updaters.ensures.ok) c.in_err-rates.ensures.err))

pub returns-clause-set : goal.returns-clause-set
returns-clause-set c = c.in_ok-admitted.ensures ∙ rated-is (kept (set_of c.args.items.items c.args.txns.items c.args.together.items)) c.in_ok-set.set c.in_ok-set.ensures.set

pub returns-clause-passed : goal.returns-clause-passed
returns-clause-passed c =
    unrefused (kept (set_of c.args.items.items c.args.txns.items c.args.together.items)) c.in_ok-set.set c.in_ok-set.ensures.set c.deref.result.now c.in_ok-set.ensures.passed
    c.in_ok-updaters.ensures.passed (c.deref.ensures.value ∙ c.in_ok-updaters.ensures.ok) c.in_ok-rates.ensures.passed

pub returns-clause-best : goal.returns-clause-best
returns-clause-best c =
    let none : too_tight (updaters c.in_ok-set.set) ≡ None = rw (c.deref.ensures.value, c.in_ok-updaters.ensures.ok) at c.in_ok-rates.ensures.passed in
    let ok : IsRatable c.in_ok-set.set = record { compiled = c.is_compiled.ensures; updaters_all = c.in_ok-updaters.ensures.passed; none_tight = none } in
    best-rates (kept (set_of c.args.items.items c.args.txns.items c.args.together.items)) c.in_ok-set.set c.in_ok-admitted.field-0 c.in_ok-set.ensures.set ok c.in_ok-admitted.ensures
