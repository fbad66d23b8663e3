use Rattle.std.proofs.Common.{◌≡◌, ◌≢◌, ◌≤◌, ℕ, [], map, length, ap, sym, refl, subst, ◌∙◌}
use Rattle.std.specs.Prelude.{IsErrOf}
use Rattle.std.specs.List.{sum}
use Rattle.law_histories.specs.Sim.{Workload}
use Rattle.sim_run.specs.Workloads.{workload}
use Rattle.scenario_run.specs.declared.standing.ReportStanding.TheVariants.{Full}
use Rattle.scenario_run.specs.ReportOuts.{Begun, OutSeen, seen}
use Rattle.scenario_run.proofs.Taking.{opens, goes}
use Rattle.scenario_run.proofs.Pieces.{fronts_legal}
use Rattle.sim_run.specs.declared.fault.RunFault.TheVariants.{Writing, Memory}
use Rattle.plant_run.specs.Runs.{eager_jobs_at}
use Rattle.plant_run.proofs.Fixed.{whole_is_sim, stopped_is_sim, short_is_sim}
use Rattle.scenario_run.proofs.Handing.{has_lines, stopped_lines, not_full}
use Rattle.scenario_run.proofs.Wholes.{lines_as, first_as}
use Rattle.scenario_run.proofs.Working.{short_lines, rose_as, later_as, any, any_err, map_ok, both_ok}
use Rattle.scenario_run.proofs.worked_lines.run_lines.Goals as goal

pub run_workers-requires-clause-good : goal.run_workers-requires-clause-good
run_workers-requires-clause-good g c =
    let was = c.args.out.now in
    let opened = opens g.T.Reported.begun was.sink.ghost_name (g.B.Board.set c.args.run.board) (seen was.standing was.names.now was.writer was.lines.items was.bytes (g.K.Sink.taken was.sink.now))
    c.requires.begun c.requires.fresh.0 c.requires.fresh.1 c.requires.fresh.2 c.requires.one_each c.requires.rows in
    λ lives within history legal n. record {
      begun = [];
      is_got = opened;
      is_good = fronts_legal g.T.Reported.begun (g.B.Board.set c.args.run.board) history (ap (λ (b : Begun). b.set) c.requires.begun) legal n;
    }

pub returns-clause-same_sink : goal.returns-clause-same_sink
returns-clause-same_sink g c =
    let w : Workload = workload (g.B.Board.set c.args.run.board) (map g.Y.Body.gives c.args.run.bodies.items) c.args.run.ticks.now in
    let was = c.args.out.now in
    let q = c.run_workers.new.out in
    let out : OutSeen = seen q.standing q.names.now q.writer q.lines.items q.bytes (g.K.Sink.taken q.sink.now) in
    let opened = opens g.T.Reported.begun was.sink.ghost_name (g.B.Board.set c.args.run.board) (seen was.standing was.names.now was.writer was.lines.items was.bytes (g.K.Sink.taken was.sink.now))
    c.requires.begun c.requires.fresh.0 c.requires.fresh.1 c.requires.fresh.2 c.requires.one_each c.requires.rows in
    let same : g.T.Reported.begun.sink ≡ q.sink.ghost_name =
    any c.run_workers.result (map_ok c.run_workers.result (λ b h. (h.grown [] opened).0) c.run_workers.ensures.whole)
    (λ e. ((c.run_workers.ensures.stopped e).grown [] opened).0) (λ e. ((c.run_workers.ensures.short e).grown [] opened).0) in
    sym same ∙ ap (λ (b : Begun). b.sink) c.requires.begun

pub returns-clause-lines : goal.returns-clause-lines
returns-clause-lines g c =
    let w : Workload = workload (g.B.Board.set c.args.run.board) (map g.Y.Body.gives c.args.run.bodies.items) c.args.run.ticks.now in
    let was = c.args.out.now in
    let q = c.run_workers.new.out in
    let out : OutSeen = seen q.standing q.names.now q.writer q.lines.items q.bytes (g.K.Sink.taken q.sink.now) in
    let opened = opens g.T.Reported.begun was.sink.ghost_name (g.B.Board.set c.args.run.board) (seen was.standing was.names.now was.writer was.lines.items was.bytes (g.K.Sink.taken was.sink.now))
    c.requires.begun c.requires.fresh.0 c.requires.fresh.1 c.requires.fresh.2 c.requires.one_each c.requires.rows in
    let set : g.T.Reported.begun.set ≡ w.set = ap (λ (b : Begun). b.set) c.requires.begun in
    both_ok c.run_workers.result
    (λ b h lost. lines_as w _ _ _ _ _ _ _ _ _ (ap (λ (x : Begun). x.names) c.requires.begun) (ap (λ (x : Begun). x.front) c.requires.begun) refl
    (has_lines g.T.Reported.begun w out set _ _ q.sink.ghost_name opened (whole_is_sim w (eager_jobs_at c.args.run.eager_jobs.now) _ _ _ c.requires.none_eager h) lost))
    c.run_workers.ensures.whole c.run_workers.ensures.none_lost

pub returns-clause-front : goal.returns-clause-front
returns-clause-front g c =
    let w : Workload = workload (g.B.Board.set c.args.run.board) (map g.Y.Body.gives c.args.run.bodies.items) c.args.run.ticks.now in
    let was = c.args.out.now in
    let q = c.run_workers.new.out in
    let out : OutSeen = seen q.standing q.names.now q.writer q.lines.items q.bytes (g.K.Sink.taken q.sink.now) in
    let opened = opens g.T.Reported.begun was.sink.ghost_name (g.B.Board.set c.args.run.board) (seen was.standing was.names.now was.writer was.lines.items was.bytes (g.K.Sink.taken was.sink.now))
    c.requires.begun c.requires.fresh.0 c.requires.fresh.1 c.requires.fresh.2 c.requires.one_each c.requires.rows in
    let set : g.T.Reported.begun.set ≡ w.set = ap (λ (b : Begun). b.set) c.requires.begun in
    let places : sum (map length c.args.run.ticks.now) ≤ g.T.Reported.begun.room = subst (λ (n : ℕ). sum (map length c.args.run.ticks.now) ≤ n) (sym (ap (λ (b : Begun). b.room) c.requires.begun)) c.requires.places in
    let stopped = λ (e : IsErrOf c.run_workers.result Writing). stopped_lines g.T.Reported.begun w out set _ q.sink.ghost_name places opened
    (stopped_is_sim w (eager_jobs_at c.args.run.eager_jobs.now) _ _ _ c.requires.rows.compiled c.requires.ready.obedient c.requires.none_eager (c.run_workers.ensures.stopped e)) in
    let short = λ (e : IsErrOf c.run_workers.result Memory). short_lines g.T.Reported.begun w out set _ q.sink.ghost_name places opened
    (short_is_sim w (eager_jobs_at c.args.run.eager_jobs.now) _ _ _ c.requires.rows.compiled c.requires.ready.obedient c.requires.none_eager (c.run_workers.ensures.short e)) in
    any_err c.run_workers.result
    (λ e. first_as w _ _ _ _ _ _ (ap (λ (x : Begun). x.names) c.requires.begun) (ap (λ (x : Begun). x.front) c.requires.begun) refl (stopped e).1)
    (λ e. first_as w _ _ _ _ _ _ (ap (λ (x : Begun). x.names) c.requires.begun) (ap (λ (x : Begun). x.front) c.requires.begun) refl (short e).1)

pub returns-clause-cause : goal.returns-clause-cause
returns-clause-cause g c = λ e.
    let w : Workload = workload (g.B.Board.set c.args.run.board) (map g.Y.Body.gives c.args.run.bodies.items) c.args.run.ticks.now in
    let was = c.args.out.now in
    let q = c.run_workers.new.out in
    let out : OutSeen = seen q.standing q.names.now q.writer q.lines.items q.bytes (g.K.Sink.taken q.sink.now) in
    let opened = opens g.T.Reported.begun was.sink.ghost_name (g.B.Board.set c.args.run.board) (seen was.standing was.names.now was.writer was.lines.items was.bytes (g.K.Sink.taken was.sink.now))
    c.requires.begun c.requires.fresh.0 c.requires.fresh.1 c.requires.fresh.2 c.requires.one_each c.requires.rows in
    let set : g.T.Reported.begun.set ≡ w.set = ap (λ (b : Begun). b.set) c.requires.begun in
    let places : sum (map length c.args.run.ticks.now) ≤ g.T.Reported.begun.room = subst (λ (n : ℕ). sum (map length c.args.run.ticks.now) ≤ n) (sym (ap (λ (b : Begun). b.room) c.requires.begun)) c.requires.places in
    let stopped = λ (e : IsErrOf c.run_workers.result Writing). stopped_lines g.T.Reported.begun w out set _ q.sink.ghost_name places opened
    (stopped_is_sim w (eager_jobs_at c.args.run.eager_jobs.now) _ _ _ c.requires.rows.compiled c.requires.ready.obedient c.requires.none_eager (c.run_workers.ensures.stopped e)) in
    let short = λ (e : IsErrOf c.run_workers.result Memory). short_lines g.T.Reported.begun w out set _ q.sink.ghost_name places opened
    (short_is_sim w (eager_jobs_at c.args.run.eager_jobs.now) _ _ _ c.requires.rows.compiled c.requires.ready.obedient c.requires.none_eager (c.run_workers.ensures.short e)) in
    rose_as was.standing q.standing (g.K.Sink.faults was.sink.now) (g.K.Sink.faults q.sink.now) c.requires.fresh.0 (stopped e).0 (c.run_workers.ensures.cause e) c.run_workers.ensures.later

pub returns-clause-later : goal.returns-clause-later
returns-clause-later g c =
    let w : Workload = workload (g.B.Board.set c.args.run.board) (map g.Y.Body.gives c.args.run.bodies.items) c.args.run.ticks.now in
    let was = c.args.out.now in
    let q = c.run_workers.new.out in
    let out : OutSeen = seen q.standing q.names.now q.writer q.lines.items q.bytes (g.K.Sink.taken q.sink.now) in
    let opened = opens g.T.Reported.begun was.sink.ghost_name (g.B.Board.set c.args.run.board) (seen was.standing was.names.now was.writer was.lines.items was.bytes (g.K.Sink.taken was.sink.now))
    c.requires.begun c.requires.fresh.0 c.requires.fresh.1 c.requires.fresh.2 c.requires.one_each c.requires.rows in
    let set : g.T.Reported.begun.set ≡ w.set = ap (λ (b : Begun). b.set) c.requires.begun in
    let places : sum (map length c.args.run.ticks.now) ≤ g.T.Reported.begun.room = subst (λ (n : ℕ). sum (map length c.args.run.ticks.now) ≤ n) (sym (ap (λ (b : Begun). b.room) c.requires.begun)) c.requires.places in
    let stopped = λ (e : IsErrOf c.run_workers.result Writing). stopped_lines g.T.Reported.begun w out set _ q.sink.ghost_name places opened
    (stopped_is_sim w (eager_jobs_at c.args.run.eager_jobs.now) _ _ _ c.requires.rows.compiled c.requires.ready.obedient c.requires.none_eager (c.run_workers.ensures.stopped e)) in
    let short = λ (e : IsErrOf c.run_workers.result Memory). short_lines g.T.Reported.begun w out set _ q.sink.ghost_name places opened
    (short_is_sim w (eager_jobs_at c.args.run.eager_jobs.now) _ _ _ c.requires.rows.compiled c.requires.ready.obedient c.requires.none_eager (c.run_workers.ensures.short e)) in
    let not : q.standing ≢ Full =
    any c.run_workers.result (map_ok c.run_workers.result (λ b lost. not_full q.standing (goes g.T.Reported.begun out lost)) c.run_workers.ensures.none_lost)
    (λ e. (stopped e).0) (λ e. (short e).0) in
    later_as was.standing q.standing (g.K.Sink.faults was.sink.now) (g.K.Sink.faults q.sink.now) c.requires.fresh.0 not c.run_workers.ensures.later
