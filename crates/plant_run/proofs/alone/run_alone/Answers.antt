use Rattle.std.proofs.Common.{List, map, sym, ap, subst, ◌∙◌}
use Rattle.law_histories.specs.Sim.{Body}
use Rattle.sim_run.specs.Workloads.{workload, IsObedient}
use Rattle.sim_run.specs.Runs.{IsWhole, IsStopped}
use Rattle.sim_run.proofs.Planning.{releases_legal}
use Rattle.law_runs.proofs.Fixed.{sim_is_run}
use Rattle.plant_run.specs.declared.watched.Watched.{Watched}
use Rattle.plant_run.specs.Ready.{workload_in, eager_jobs_in}
use Rattle.plant_run.proofs.Ending.{cut_before}
use Rattle.plant_run.proofs.alone.run_alone.Goals as goal

pub returns-in_err-serials-clause-short : goal.returns-in_err-serials-clause-short
returns-in_err-serials-clause-short g c = λ refused. cut_before _ _ _ _ (releases_legal _ _ c.requires.ready.accepted) c.requires.nothing_lost

pub returns-in_err-bodies-clause-short : goal.returns-in_err-bodies-clause-short
returns-in_err-bodies-clause-short g c = λ refused. cut_before _ _ _ _ (releases_legal _ _ c.requires.ready.accepted) c.requires.nothing_lost

pub run-requires-clause-obedient : goal.run-requires-clause-obedient
run-requires-clause-obedient g c = subst (λ (bs : List Body). IsObedient (workload (g.B.Board.set c.args.run.board) bs c.args.run.ticks.now)) (sym (ap (λ (l : List (Watched g.row.Y.Denot g.row.G.Denot)). map (λ w. g.Y.Body.gives w.body) l) c.as_mut_slice.ensures.value ∙ c.in_ok-bodies.ensures)) c.requires.ready.obedient

pub returns-in_err-run-clause-stopped : goal.returns-in_err-run-clause-stopped
returns-in_err-run-clause-stopped g c = λ stopped.
    let s = subst (λ (bs : List Body). IsStopped (workload (g.B.Board.set c.args.run.board) bs c.args.run.ticks.now) (g.O.EntryOut.got c.args.out.now) (g.O.EntryOut.got c.run.new.out) (g.O.EntryOut.lost c.run.new.out))
    (ap (λ (l : List (Watched g.row.Y.Denot g.row.G.Denot)). map (λ w. g.Y.Body.gives w.body) l) c.as_mut_slice.ensures.value ∙ c.in_ok-bodies.ensures) c.in_err-run.ensures.stopped in
    record {
      history = s.history;
      so_far = (sim_is_run (workload_in g.B.Board.set g.Y.Body.gives c.args.run) (eager_jobs_in c.args.run) s.history c.requires.none_eager s.sim).so_far;
      passed = s.passed;
      missed = s.missed;
      grown = s.grown;
      is_lost = s.is_lost;
    }

pub returns-clause-whole : goal.returns-clause-whole
returns-clause-whole g c =
    let s = subst (λ (bs : List Body). IsWhole (workload (g.B.Board.set c.args.run.board) bs c.args.run.ticks.now) (g.B.Board.stands c.run.new.board) (g.O.EntryOut.got c.args.out.now) (g.O.EntryOut.got c.run.new.out))
    (ap (λ (l : List (Watched g.row.Y.Denot g.row.G.Denot)). map (λ w. g.Y.Body.gives w.body) l) c.as_mut_slice.ensures.value ∙ c.in_ok-bodies.ensures) c.in_ok-run.ensures.whole in
    record {
      history = s.history;
      run = sim_is_run (workload_in g.B.Board.set g.Y.Body.gives c.args.run) (eager_jobs_in c.args.run) s.history c.requires.none_eager s.sim;
      stood = s.stood;
      grown = s.grown;
    }
