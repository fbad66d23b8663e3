use Rattle.core_tables.proofs.Releases.{less_kept, release_there, release_free}
use Rattle.core_tables.proofs.Arrivals.{releases, released_rows, released_planned, left_some, nothing_due, stays_as}
use Rattle.core_tables.proofs.Cancels.{default_none}
use Rattle.core_tables.proofs.arrive.release.Goals as goal

pub release-requires-clause-tx : goal.release-requires-clause-tx
release-requires-clause-tx c =
    let some = left_some c.args.tick c.args.pending.now c.loop-calendar.pending c.args.calendar.now c.loop-calendar.calendar c.loop-calendar.invariant c.requires.can in
    release_there c.args.tick c.loop-calendar.pending.rows some.planned c.in-Some.job some.can (c.in-Some.ensures.due some.planned some.holds)

pub release-requires-clause-free : goal.release-requires-clause-free
release-requires-clause-free c =
    let some = left_some c.args.tick c.args.pending.now c.loop-calendar.pending c.args.calendar.now c.loop-calendar.calendar c.loop-calendar.invariant c.requires.can in
    release_free c.args.tick c.loop-calendar.pending.rows some.planned c.in-Some.job some.can (c.in-Some.ensures.due some.planned some.holds)

pub loop-calendar-smaller : goal.loop-calendar-smaller
loop-calendar-smaller c = less_kept c.args.tick c.loop-calendar.calendar c.due.new.self c.in-Some.job c.in-Some.ensures.due c.in-Some.ensures.left

pub loop-calendar-preserved : goal.loop-calendar-preserved
loop-calendar-preserved c =
    releases c.args.tick c.args.pending.now c.loop-calendar.pending c.release.new.self c.args.calendar.now c.loop-calendar.calendar c.due.new.self c.in-Some.job c.loop-calendar.invariant
    c.in-Some.ensures.due c.in-Some.ensures.left c.due.ensures.rest c.release.ensures

pub returns-in_default-clause-rows : goal.returns-in_default-clause-rows
returns-in_default-clause-rows c =
    released_rows c.args.tick c.args.pending.now c.loop-calendar.pending c.args.calendar.now c.loop-calendar.calendar c.loop-calendar.invariant
    (nothing_due c.args.tick c.loop-calendar.calendar c.due.result (default_none c.due.result c.in_default.not-Some) c.due.ensures.due)

pub returns-in_default-clause-planned : goal.returns-in_default-clause-planned
returns-in_default-clause-planned c =
    released_planned c.args.tick c.args.pending.now c.loop-calendar.pending c.args.calendar.now c.loop-calendar.calendar c.due.new.self c.loop-calendar.invariant
    (nothing_due c.args.tick c.loop-calendar.calendar c.due.result (default_none c.due.result c.in_default.not-Some) c.due.ensures.due)
    (stays_as c.args.tick c.loop-calendar.calendar c.due.new.self c.due.result (default_none c.due.result c.in_default.not-Some) c.due.ensures.left)

pub returns-clause-rows : goal.returns-clause-rows
returns-clause-rows c =
    released_rows c.args.tick c.args.pending.now c.loop-calendar.pending c.args.calendar.now c.loop-calendar.calendar c.loop-calendar.invariant
    (λ planned holds. c.may_be_due.ensures planned holds c.loop-calendar-test.false)

pub returns-clause-planned : goal.returns-clause-planned
returns-clause-planned c =
    released_planned c.args.tick c.args.pending.now c.loop-calendar.pending c.args.calendar.now c.loop-calendar.calendar c.loop-calendar.calendar c.loop-calendar.invariant
    (λ planned holds. c.may_be_due.ensures planned holds c.loop-calendar-test.false) (λ planned holds. holds)
