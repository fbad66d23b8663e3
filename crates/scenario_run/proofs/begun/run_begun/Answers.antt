use Rattle.std.proofs.Common.{refl, sym, ap, subst, ◌∙◌}
use Rattle.scenario_run.proofs.Parts.{wrote_of, front_of, kept_or_front}
use Rattle.scenario_run.proofs.Wholes.{on_ok}
use Rattle.scenario_run.specs.Eager.{IsRunTextBy}
use Rattle.plant_run.specs.Runs.{eager_jobs_at}
use Rattle.scenario_run.specs.Opened.{IsOpened}
use Rattle.sim_run.specs.Workloads.{workload}
use Rattle.txn_set.specs.Set.{Set}
use Rattle.scenario_run.specs.Begun.{BegunText}
use Rattle.scenario_run.specs.Runs.{functions_of}
use Rattle.scenario_run.proofs.Started.{run_of, ready_as, room_as}
use Rattle.scenario_run.proofs.Ready.{places_for}
use Rattle.scenario_run.proofs.begun.run_begun.Goals as goal

pub run_on-requires-clause-ready : goal.run_on-requires-clause-ready
run_on-requires-clause-ready g c =
    let bodies = c.args.begun.bodies in
    ready_as (g.B.Board.set c.args.begun.board) bodies.scripts.items bodies.ticks.items c.deref.result.now bodies.eager_jobs.items c.deref-2.result.now
    c.deref.ensures.value c.deref-2.ensures.value c.requires.ready

pub write_run-written-requires-clause-opened : goal.write_run-written-requires-clause-opened
write_run-written-requires-clause-opened g c κs within =
    subst (λ (q : Set). IsOpened q c.args.begun.report) (sym (ap g.B.Board.set c.in-Ok.ensures.board)) c.requires.opened

pub write_run-written-requires-clause-places : goal.write_run-written-requires-clause-places
write_run-written-requires-clause-places g c κs within =
    let bodies = c.args.begun.bodies in
    let run = c.in-Ok.run' in
    places_for (g.B.Board.set run.board) bodies.ticks.items run.ticks.now bodies.eager_jobs.items run.eager_jobs.now _ c.args.begun.report.writer.room
    (c.in-Ok.ensures.parts.1 ∙ c.deref.ensures.value) (c.in-Ok.ensures.parts.2 ∙ c.deref-2.ensures.value) c.in-Ok.ensures.ready.eager_jobs_each refl c.requires.places

pub write_run-written-requires-clause-entries : goal.write_run-written-requires-clause-entries
write_run-written-requires-clause-entries g c κs within =
    let bodies = c.args.begun.bodies in
    let run = c.in-Ok.run' in
    room_as c.args.begun.report.entries (g.B.Board.set c.args.begun.board) (g.B.Board.set run.board) bodies.ticks.items run.ticks.now bodies.eager_jobs.items run.eager_jobs.now
    (ap g.B.Board.set c.in-Ok.ensures.board) (c.in-Ok.ensures.parts.1 ∙ c.deref.ensures.value) (c.in-Ok.ensures.parts.2 ∙ c.deref-2.ensures.value) c.requires.entries

pub returns-clause-whole : goal.returns-clause-whole
returns-clause-whole g c =
    let run = c.in-Ok.run' in
    let report = c.args.begun.report in
    let set = g.B.Board.set in
    let P = IsRunTextBy report.names.now report.admitted (workload (set run.board) (functions_of run.bodies.items) run.ticks.now) (eager_jobs_at run.eager_jobs.now) in
    on_ok c.write_run-written.result
    (wrote_of P (BegunText set c.args.begun) _ _
    (run_of set c.args.begun run.board run.bodies.items run.ticks.now run.eager_jobs.now c.in-Ok.ensures.board (ap (λ v. v.items) c.in-Ok.ensures.parts.0)
    (c.in-Ok.ensures.parts.1 ∙ c.deref.ensures.value) (c.in-Ok.ensures.parts.2 ∙ c.deref-2.ensures.value)))
    c.write_run-written.ensures.whole

pub returns-clause-cut : goal.returns-clause-cut
returns-clause-cut g c = λ is.
    let run = c.in-Ok.run' in
    let report = c.args.begun.report in
    let set = g.B.Board.set in
    let P = IsRunTextBy report.names.now report.admitted (workload (set run.board) (functions_of run.bodies.items) run.ticks.now) (eager_jobs_at run.eager_jobs.now) in
    front_of P (BegunText set c.args.begun) _ _
    (run_of set c.args.begun run.board run.bodies.items run.ticks.now run.eager_jobs.now c.in-Ok.ensures.board (ap (λ v. v.items) c.in-Ok.ensures.parts.0)
    (c.in-Ok.ensures.parts.1 ∙ c.deref.ensures.value) (c.in-Ok.ensures.parts.2 ∙ c.deref-2.ensures.value))
    (c.write_run-written.ensures.cut is)

pub returns-clause-short : goal.returns-clause-short
returns-clause-short g c = λ is.
    let run = c.in-Ok.run' in
    let report = c.args.begun.report in
    let set = g.B.Board.set in
    let P = IsRunTextBy report.names.now report.admitted (workload (set run.board) (functions_of run.bodies.items) run.ticks.now) (eager_jobs_at run.eager_jobs.now) in
    kept_or_front P (BegunText set c.args.begun) _ _
    (run_of set c.args.begun run.board run.bodies.items run.ticks.now run.eager_jobs.now c.in-Ok.ensures.board (ap (λ v. v.items) c.in-Ok.ensures.parts.0)
    (c.in-Ok.ensures.parts.1 ∙ c.deref.ensures.value) (c.in-Ok.ensures.parts.2 ∙ c.deref-2.ensures.value))
    (c.write_run-written.ensures.short is)
