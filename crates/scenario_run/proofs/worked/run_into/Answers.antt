use Rattle.std.proofs.Common.{ℕ, ◌+◌, ◌≤◌, map, length, Err, ap, subst, ◌∙◌}
use Rattle.std.specs.Prelude.{IsErrOf}
use Rattle.law_histories.specs.Counting.{room_of_jobs}
use Rattle.law_histories.specs.Sim.{Workload}
use Rattle.sim_run.specs.Workloads.{workload, ticks_of}
use Rattle.scenario_run.specs.Kept.{Roomed}
use Rattle.sim_run.specs.declared.fault.RunFault.TheVariants.{Writing}
use Rattle.plant_run.specs.Runs.{eager_jobs_at}
use Rattle.scenario_run.proofs.Keeping.{never_stops, kept_run, only_memory}
use Rattle.scenario_run.proofs.worked.run_into.Goals as goal

pub no_memory-requires : goal.no_memory-requires
no_memory-requires g c =
    let w : Workload = workload (g.B.Board.set c.args.run.board) (map g.Y.Body.gives c.args.run.bodies.items) c.args.run.ticks.now in
    let was = c.args.out.now in
    let q = c.run_workers.new.out in
    let out : Roomed = record { room = was.room; kept = was.entries.items; full = was.full } in
    let out' : Roomed = record { room = q.room; kept = q.entries.items; full = q.full } in
    let fits : room_of_jobs w.set.txns (λ tx. length (ticks_of w.releases tx) + eager_jobs_at c.args.run.eager_jobs.now tx) ≤ g.T.Roomy.room =
    subst (λ (n : ℕ). room_of_jobs w.set.txns (λ tx. length (ticks_of w.releases tx) + eager_jobs_at c.args.run.eager_jobs.now tx) ≤ n) c.requires.fresh.0 c.requires.entries in
    only_memory c.in-Err.fault (λ e. (let is : IsErrOf c.run_workers.result Writing = c.in-Err.is ∙ ap Err e in
    never_stops w (eager_jobs_at c.args.run.eager_jobs.now) g.T.Roomy.room out out' c.requires.compiled (c.requires.fresh.0, c.requires.fresh.1) c.requires.fresh.2 fits
    (c.run_workers.ensures.stopped is) (c.run_workers.ensures.cause is)))

pub returns-in-Ok-clause-run : goal.returns-in-Ok-clause-run
returns-in-Ok-clause-run g c =
    let w : Workload = workload (g.B.Board.set c.args.run.board) (map g.Y.Body.gives c.args.run.bodies.items) c.args.run.ticks.now in
    let was = c.args.out.now in
    let q = c.run_workers.new.out in
    let out : Roomed = record { room = was.room; kept = was.entries.items; full = was.full } in
    let out' : Roomed = record { room = q.room; kept = q.entries.items; full = q.full } in
    (kept_run w (eager_jobs_at c.args.run.eager_jobs.now) g.T.Roomy.room (g.B.Board.stands c.in-Ok.board) out out' (c.requires.fresh.0, c.requires.fresh.1) c.in-Ok.ensures.whole).0

pub returns-in-Ok-clause-stood : goal.returns-in-Ok-clause-stood
returns-in-Ok-clause-stood g c =
    let w : Workload = workload (g.B.Board.set c.args.run.board) (map g.Y.Body.gives c.args.run.bodies.items) c.args.run.ticks.now in
    let was = c.args.out.now in
    let q = c.run_workers.new.out in
    let out : Roomed = record { room = was.room; kept = was.entries.items; full = was.full } in
    let out' : Roomed = record { room = q.room; kept = q.entries.items; full = q.full } in
    (kept_run w (eager_jobs_at c.args.run.eager_jobs.now) g.T.Roomy.room (g.B.Board.stands c.in-Ok.board) out out' (c.requires.fresh.0, c.requires.fresh.1) c.in-Ok.ensures.whole).1
