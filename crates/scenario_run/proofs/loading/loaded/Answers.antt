use Rattle.std.proofs.Common.{◌≡◌, ℕ, List, map, refl, sym, ap, subst, ◌∙◌, arith}
use Rattle.std.proofs.lemmas.Result.{IfOk-weaker}
use Rattle.plant_run.specs.Runs.{eager_jobs_at}
use Rattle.step_script.specs.Releases.{fixed_ticks, eager_of}
use Rattle.txn_set.specs.Set.{Set, IsCompiled}
use Rattle.scenario_run.specs.Runs.{functions_of, IsReady, IsSummaryBy}
use Rattle.scenario_run.proofs.Started.{room_as}
use Rattle.scenario_run.proofs.Ready.{moved}
use Rattle.scenario_run.proofs.loading.loaded.Goals as goal

pub summary_of-requires-clause-room : goal.summary_of-requires-clause-room
summary_of-requires-clause-room g c κs within =
    let room : c.in-Ok-new.board.journal.room ≡ 4096 = ap (λ j. j.room) c.in-Ok-new.ensures.ok.1 in
    omega (arith, room)

pub summary_of-requires-clause-ready : goal.summary_of-requires-clause-ready
summary_of-requires-clause-ready g c κs within =
    let bodies = c.in-Ok.bodies in
    subst (λ (q : Set). IsReady q bodies.scripts.items bodies.ticks.items bodies.eager_jobs.items) (sym c.in-Ok-new.ensures.ok.0) c.in-Ok.ensures.ready

pub summary_of-requires-clause-compiled : goal.summary_of-requires-clause-compiled
summary_of-requires-clause-compiled g c κs within = subst IsCompiled (sym c.in-Ok-new.ensures.ok.0) c.is_compiled.ensures

pub summary_of-requires-clause-fixed : goal.summary_of-requires-clause-fixed
summary_of-requires-clause-fixed g c κs within = λ tx. ap (λ (l : List ℕ). eager_jobs_at l tx) c.in-Ok.ensures.eager_jobs ∙ c.requires.fixed tx

pub summary_of-requires-clause-entries : goal.summary_of-requires-clause-entries
summary_of-requires-clause-entries g c κs within =
    let bodies = c.in-Ok.bodies in
    let tasks = c.args.tasks in
    room_as tasks.room c.args.set c.in-Ok-new.board.set (fixed_ticks c.args.set.txns tasks.releases) bodies.ticks.items (map eager_of tasks.releases) bodies.eager_jobs.items
    c.in-Ok-new.ensures.ok.0 c.in-Ok.ensures.ticks c.in-Ok.ensures.eager_jobs c.requires.entries

pub returns-in-Ok-new : goal.returns-in-Ok-new
returns-in-Ok-new g c =
    let bodies = c.in-Ok.bodies in
    let tasks = c.args.tasks in
    let eager_jobs = eager_jobs_at bodies.eager_jobs.items in
    IfOk-weaker c.summary_of.result _ _
    (λ text h. moved (λ w eager_jobs. IsSummaryBy w text.items) c.in-Ok-new.board.set c.args.set (functions_of bodies.scripts.items) (functions_of tasks.scripts) bodies.ticks.items (fixed_ticks c.args.set.txns tasks.releases) eager_jobs eager_jobs
    c.in-Ok-new.ensures.ok.0 (ap functions_of c.in-Ok.ensures.scripts) c.in-Ok.ensures.ticks refl h)
    c.summary_of.ensures
