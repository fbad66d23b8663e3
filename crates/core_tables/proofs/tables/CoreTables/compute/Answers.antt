use Rattle.std.proofs.Common.{◌+◌, refl, sym, subst, arith}
use Rattle.rt_base.specs.declared.operation.Op.TheVariants.{Compute}
use Rattle.core_tables.specs.Arriving.{IsQuiet}
use Rattle.core_tables.proofs.Places.{places}
use Rattle.core_tables.proofs.Planned.{at_view}
use Rattle.core_tables.proofs.Effected.{row_here, job_in_set, used_low, clock_low}
use Rattle.core_tables.proofs.Quiet.{computes}
use Rattle.core_tables.proofs.tables.CoreTables.compute.Goals as goal

pub overflow_add-at : goal.overflow_add-at
overflow_add-at c =
    let set = c.args.set.now in
    let some = c.requires.granted in
    omega (arith, clock_low set _ some.state c.args.job Compute (at_view set _ _ some.state c.self.view_is some.are) some.legal some.granted)

pub is_quiet-requires-clause-in_set : goal.is_quiet-requires-clause-in_set
is_quiet-requires-clause-in_set c =
    let some = c.requires.granted in
    job_in_set c.args.set.now some.state c.args.job Compute some.legal some.granted

pub is_quiet-requires-clause-row : goal.is_quiet-requires-clause-row
is_quiet-requires-clause-row c =
    let set = c.args.set.now in
    let some = c.requires.granted in
    omega (arith, job_in_set set some.state c.args.job Compute some.legal some.granted, (places set _ some.state some.are some.legal).rows)

pub is_quiet-requires-clause-used : goal.is_quiet-requires-clause-used
is_quiet-requires-clause-used c =
    let some = c.requires.granted in
    used_low c.args.set.now _ some.state c.args.job Compute some.are some.legal some.granted

pub step-requires-clause-tx : goal.step-requires-clause-tx
step-requires-clause-tx c =
    let set = c.args.set.now in
    let some = c.requires.granted in
    let are = at_view set _ _ some.state c.self.view_is some.are in
    omega (arith, job_in_set set some.state c.args.job Compute some.legal some.granted, (places set _ some.state are some.legal).rows)

pub step-requires-clause-items : goal.step-requires-clause-items
step-requires-clause-items c =
    let set = c.args.set.now in
    let some = c.requires.granted in
    let are = at_view set _ _ some.state c.self.view_is some.are in
    omega (arith, (places set _ some.state are some.legal).items, are.rows.facts.items)

pub returns-clause-done : goal.returns-clause-done
returns-clause-done c = λ _ s now legal g.
    let set = c.args.set.now in
    let are = at_view set _ _ s c.self.view_is now in
    computes set _ s c.args.job are legal g
    (subst (λ t. IsQuiet set t c.args.job.tx.0 (c.self.inside.clock + 1)) (sym c.self.view_is) (c.if-not-is_quiet.ensures refl))
    c.step.new.self (c.step.ensures.after g.row (row_here set _ s c.args.job Compute are legal g))
