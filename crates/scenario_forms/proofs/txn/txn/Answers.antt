use Rattle.std.proofs.Common.{ℤ, List, Result, sym, ap, ◌∙◌}
use Rattle.std.proofs.lemmas.Result.{err_from_is_err_and}
use Rattle.scenario_forms.specs.declared.error.FormError.{FormError}
use Rattle.scenario_forms.specs.Reading.{◌>>=◌}
use Rattle.scenario_forms.specs.Ops.{KnownOp}
use Rattle.name_table.specs.Places.{place_in}
use Rattle.serde_json.specs.View.{view}
use Rattle.scenario_forms.proofs.Folds.{fails_with, fails_along}
use Rattle.scenario_forms.proofs.Pairs.{after_accesses, made, txn_by_accesses, txn_by_releases, txn_by_inputs}
use Rattle.scenario_forms.proofs.txn.txn.Goals as goal

pub returns-in_err-reads : goal.returns-in_err-reads
returns-in_err-reads c =
    let p = err_from_is_err_and c.from_residual-in_err-reads.result c.from_residual-in_err-reads.ensures.1 in
    rw (p.1, p.2) (fails_along _ _ _ (sym (txn_by_accesses (place_in c.args.items.now) c.args.i (view c.args.value.now)
    c.in_ok-times.times (sym c.in_ok-times.ensures))) (fails_with _ _ (after_accesses (place_in c.args.items.now)
    c.args.i (view c.args.value.now) c.in_ok-times.times) c.in_err-reads.ensures))

pub returns-in_err-releases : goal.returns-in_err-releases
returns-in_err-releases c =
    let p = err_from_is_err_and c.from_residual-in_err-releases.result c.from_residual-in_err-releases.ensures.1 in
    rw (p.1, p.2) (fails_along _ _ _ (sym (txn_by_releases (place_in c.args.items.now) c.args.i
    (view c.args.value.now) c.in_ok-times.times (c.in_ok-reads.reads.items, c.in_ok-reads.writes.items)
    (sym c.in_ok-times.ensures) c.in_ok-reads.ensures)) (fails_with _ _ _ c.in_err-releases.ensures))

pub returns-in_err-samples : goal.returns-in_err-samples
returns-in_err-samples c =
    let p = err_from_is_err_and c.from_residual-in_err-samples.result c.from_residual-in_err-samples.ensures.1 in
    rw (p.1, p.2) (fails_along _ _ _ (sym (txn_by_inputs (place_in c.args.items.now) c.args.i (view c.args.value.now)
    c.in_ok-times.times (c.in_ok-reads.reads.items, c.in_ok-reads.writes.items) c.in_ok-releases.releases
    (sym c.in_ok-times.ensures) c.in_ok-reads.ensures c.in_ok-releases.ensures)) (fails_with _ _
    (made c.in_ok-times.times (c.in_ok-reads.reads.items, c.in_ok-reads.writes.items) c.in_ok-releases.releases)
    c.in_err-samples.ensures))

pub returns : goal.returns
returns c = txn_by_inputs (place_in c.args.items.now) c.args.i (view c.args.value.now)
    c.in_ok-times.times (c.in_ok-reads.reads.items, c.in_ok-reads.writes.items) c.in_ok-releases.releases
    (sym c.in_ok-times.ensures) c.in_ok-reads.ensures c.in_ok-releases.ensures
    ∙ ap (λ (r : Result (List ℤ × List KnownOp) FormError). r >>= made c.in_ok-times.times
    (c.in_ok-reads.reads.items, c.in_ok-reads.writes.items) c.in_ok-releases.releases) c.in_ok-samples.ensures
