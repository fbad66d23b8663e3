use Rattle.std.proofs.Common.{ℕ, List, refl, sym, ap, subst, ◌∙◌}
use Rattle.std.proofs.lemmas.Result.{IfOk-weaker}
use Rattle.plant_run.specs.Runs.{eager_jobs_at}
use Rattle.txn_set.specs.Set.{IsCompiled}
use Rattle.scenario_run.specs.Runs.{functions_of, IsSummaryBy}
use Rattle.scenario_run.proofs.Started.{ready_as, room_as}
use Rattle.scenario_run.proofs.Ready.{moved}
use Rattle.scenario_run.proofs.loading.summary_of.Goals as goal

pub run_on-requires-clause-ready : goal.run_on-requires-clause-ready
run_on-requires-clause-ready g c =
    let bodies = c.args.load.bodies in
    ready_as (g.B.Board.set c.args.load.board) bodies.scripts.items bodies.ticks.items c.deref.result.now bodies.eager_jobs.items c.deref-2.result.now
    c.deref.ensures.value c.deref-2.ensures.value c.requires.ready

pub summary_on-text-requires-clause-compiled : goal.summary_on-text-requires-clause-compiled
summary_on-text-requires-clause-compiled g c κs within = subst IsCompiled (sym (ap g.B.Board.set c.in-Ok.ensures.board)) c.requires.compiled

pub summary_on-text-requires-clause-fixed : goal.summary_on-text-requires-clause-fixed
summary_on-text-requires-clause-fixed g c κs within = λ tx.
    ap (λ (l : List ℕ). eager_jobs_at l tx) (c.in-Ok.ensures.parts.2 ∙ c.deref-2.ensures.value) ∙ c.requires.fixed tx

pub summary_on-text-requires-clause-entries : goal.summary_on-text-requires-clause-entries
summary_on-text-requires-clause-entries g c κs within =
    let bodies = c.args.load.bodies in
    let run = c.in-Ok.run' in
    room_as c.args.load.room (g.B.Board.set c.args.load.board) (g.B.Board.set run.board) bodies.ticks.items run.ticks.now bodies.eager_jobs.items run.eager_jobs.now
    (ap g.B.Board.set c.in-Ok.ensures.board) (c.in-Ok.ensures.parts.1 ∙ c.deref.ensures.value) (c.in-Ok.ensures.parts.2 ∙ c.deref-2.ensures.value) c.requires.entries

pub returns : goal.returns
returns g c =
    let bodies = c.args.load.bodies in
    let run = c.in-Ok.run' in
    IfOk-weaker c.summary_on-text.result _ _
    (λ text h. moved (λ w eager_jobs. IsSummaryBy w text.items) (g.B.Board.set run.board) (g.B.Board.set c.args.load.board) (functions_of run.bodies.items) (functions_of bodies.scripts.items) run.ticks.now bodies.ticks.items (eager_jobs_at bodies.eager_jobs.items) (eager_jobs_at bodies.eager_jobs.items)
    (ap g.B.Board.set c.in-Ok.ensures.board) (ap (λ v. functions_of v.items) c.in-Ok.ensures.parts.0) (c.in-Ok.ensures.parts.1 ∙ c.deref.ensures.value) refl h)
    c.summary_on-text.ensures
