use Rattle.std.proofs.Common.{◌≡◌, None, sym, subst, arith}
use Rattle.release_calendar.specs.Agenda.{refusal}
use Rattle.core_tables.specs.Seen.{TablesSeen}
use Rattle.core_tables.proofs.Planned.{at_view, planned_later, planned_now, plan_row_free, periods_many, rows_many, bounds}
use Rattle.core_tables.proofs.tables.CoreTables.note_plan.Goals as goal

pub returns-then-tick-self : goal.returns-then-tick-self
returns-then-tick-self c = λ set s are legal.
    planned_later set _ s c.plan_free-serial.new.self c.args.tx.0 c.args.tick (at_view set _ _ s c.self.view_is are) c.plan_free-serial.ensures.planned c.if-tick-self.true

pub release-requires-clause-tx : goal.release-requires-clause-tx
release-requires-clause-tx c =
    let set = c.requires.stand.0 in
    let stand = c.requires.stand.1 in
    let are = at_view set _ _ stand.state c.self.view_is stand.are in
    omega (arith, c.requires.in_set, periods_many set _ stand.state stand.are, rows_many set _ stand.state are stand.legal)

pub release-requires-clause-free : goal.release-requires-clause-free
release-requires-clause-free c =
    let set = c.requires.stand.0 in
    let stand = c.requires.stand.1 in
    plan_row_free set _ stand.state c.args.tx.0 c.args.tick (at_view set _ _ stand.state c.self.view_is stand.are) stand.legal (subst (λ (t : TablesSeen). refusal t.calendar c.args.tx.0 c.args.tick t.clock ≡ None) (sym c.self.view_is) c.requires.free) c.if-tick-self.false
    (omega (arith, c.requires.in_set, periods_many set _ stand.state stand.are))

pub release-requires-clause-tick : goal.release-requires-clause-tick
release-requires-clause-tick c =
    let set = c.requires.stand.0 in
    let stand = c.requires.stand.1 in
    let pass = bounds set _ stand.state c.args.tx.0 c.args.tick (at_view set _ _ stand.state c.self.view_is stand.are) (subst (λ (t : TablesSeen). refusal t.calendar c.args.tx.0 c.args.tick t.clock ≡ None) (sym c.self.view_is) c.requires.free) in
    omega (arith, pass.near)

pub returns : goal.returns
returns c = λ set s are legal.
    planned_now set _ s c.plan_free-serial.new.self c.due.new.self c.release.new.self c.due.result c.args.tx.0 c.args.tick c.plan_free-serial.result (at_view set _ _ s c.self.view_is are) legal c.plan_free-serial.ensures.planned
    c.if-tick-self.false c.plan_free-serial.ensures.serial c.due.ensures.due c.due.ensures.left c.due.ensures.rest c.release.ensures
