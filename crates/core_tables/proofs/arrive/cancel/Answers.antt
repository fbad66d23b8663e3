use Rattle.std.proofs.Common.{ap, sym, ◌∙◌, refl, arith}
use Rattle.std.specs.List.{fold}
use Rattle.core_tables.specs.Changes.{tally_late}
use Rattle.core_tables.proofs.Cancels.{cancelling_nothing, cancels, cancelled_all, cancelled_none, ended_late, late_in_range, late_less, facts_of, default_none}
use Rattle.core_tables.proofs.arrive.cancel.Goals as goal

pub returns-then-has_time-clause-pending : goal.returns-then-has_time-clause-pending
returns-then-has_time-clause-pending c =
    λ set facts can. cancelled_none set c.args.tick c.args.pending.now (c.if-has_time.ensures refl set facts)

pub returns-then-has_time-clause-tallies : goal.returns-then-has_time-clause-tallies
returns-then-has_time-clause-tallies c =
    λ set facts can. ap (fold tally_late c.args.tallies.now) (sym (c.if-has_time.ensures refl set facts))

pub loop-job-init : goal.loop-job-init
loop-job-init c = λ set facts can. cancelling_nothing set c.args.tick c.args.pending.now c.args.tallies.now can

pub end-requires : goal.end-requires
end-requires c =
    let r = c.requires in
    let loop = c.loop-job.invariant r.set r.facts r.can in
    late_in_range r.set c.args.tick c.loop-job.pending c.in-Some.job loop.can.frame (c.in-Some.ensures r.set (facts_of _ _ _ loop.facts r.facts))

pub count_end-requires-clause-tx : goal.count_end-requires-clause-tx
count_end-requires-clause-tx c =
    let r = c.requires in
    let loop = c.loop-job.invariant r.set r.facts r.can in
    let lt = late_in_range r.set c.args.tick c.loop-job.pending c.in-Some.job loop.can.frame (c.in-Some.ensures r.set (facts_of _ _ _ loop.facts r.facts)) in
    omega (arith, lt, loop.can.count, loop.can.frame.count)

pub count_end-requires-clause-few : goal.count_end-requires-clause-few
count_end-requires-clause-few c =
    let r = c.requires in
    let loop = c.loop-job.invariant r.set r.facts r.can in
    omega (arith, loop.can.few c.in-Some.job.tx.0)

pub loop-job-smaller : goal.loop-job-smaller
loop-job-smaller c =
    let r = c.requires in
    let loop = c.loop-job.invariant r.set r.facts r.can in
    let due = c.in-Some.ensures r.set (facts_of _ _ _ loop.facts r.facts) in
    late_less r.set c.args.tick c.loop-job.pending c.end.new.self c.in-Some.job r.facts.compiled loop.can.frame due
    (ended_late r.set c.args.tick c.args.pending.now c.loop-job.pending c.end.new.self c.args.tallies.now c.loop-job.tallies c.in-Some.job loop due c.end.ensures)

pub loop-job-preserved : goal.loop-job-preserved
loop-job-preserved c = λ set facts can.
    let loop = c.loop-job.invariant set facts can in
    let due = c.in-Some.ensures set (facts_of _ _ _ loop.facts facts) in
    cancels set c.args.tick c.args.pending.now c.loop-job.pending c.end.new.self c.args.tallies.now c.loop-job.tallies c.count_end.new.tallies c.in-Some.job facts loop due
    (ended_late set c.args.tick c.args.pending.now c.loop-job.pending c.end.new.self c.args.tallies.now c.loop-job.tallies c.in-Some.job loop due c.end.ensures)
    c.count_end.ensures

pub returns-clause-pending : goal.returns-clause-pending
returns-clause-pending c = λ set facts can.
    let loop = c.loop-job.invariant set facts can in
    (cancelled_all set c.args.tick c.args.pending.now c.loop-job.pending c.args.tallies.now c.loop-job.tallies loop
    (sym (default_none c.due.result c.in_default.not-Some) ∙ c.due.ensures set (facts_of _ _ _ loop.facts facts))).0

pub returns-clause-tallies : goal.returns-clause-tallies
returns-clause-tallies c = λ set facts can.
    let loop = c.loop-job.invariant set facts can in
    (cancelled_all set c.args.tick c.args.pending.now c.loop-job.pending c.args.tallies.now c.loop-job.tallies loop
    (sym (default_none c.due.result c.in_default.not-Some) ∙ c.due.ensures set (facts_of _ _ _ loop.facts facts))).1
