use Rattle.std.proofs.Common.{◌++◌, List, [], length, map, sym, ap, subst, ◌∙◌, arith, rules}
use Rattle.txn_set.specs.Set.{Set}
use Rattle.step_journal.specs.declared.entry.Entry.{Entry}
use Rattle.law_histories.specs.Sim.{plans_from}
use Rattle.sim_run.specs.Workloads.{workload, IsObedient}
use Rattle.sim_run.specs.Handed.{CanTake, IsCut}
use Rattle.sim_run.proofs.Planning.{releases_legal}
use Rattle.law_runs.specs.Plannable.{ArePlannable}
use Rattle.sim_run.proofs.Runs.{nothing_kept}
use Rattle.plant_run.specs.Runs.{eager_jobs_at, IsShortRun}
use Rattle.plant_run.specs.Ready.{workload_in, eager_jobs_in}
use Rattle.plant_run.proofs.Ending.{few_ticks, plans_so_far, cut_run, cut_before, cut_short, plans_handed, can_go_on, stopped_at_work, can_append_left, stopped_at_end, ended_whole}
use Rattle.plant_run.proofs.whole.run_workers.Goals as goal

pub returns-in_err-crew-clause-short : goal.returns-in_err-crew-clause-short
returns-in_err-crew-clause-short g c = λ refused. cut_before _ _ _ _ (releases_legal _ _ c.requires.ready.accepted) c.requires.nothing_lost

pub plan_all-requires-clause-legal : goal.plan_all-requires-clause-legal
plan_all-requires-clause-legal g c = ([], c.requires.ready.opened, releases_legal _ _ c.requires.ready.accepted)

pub plan_all-requires-clause-ready : goal.plan_all-requires-clause-ready
plan_all-requires-clause-ready g c = record { few = omega (arith, ap (λ (l : List Entry). length l) (nothing_kept _ _ _ _ (c.histories_are.ensures c.args.run.board [] c.requires.ready.opened))); more = c.requires.ready.more }

pub plan_all-requires-clause-good : goal.plan_all-requires-clause-good
plan_all-requires-clause-good g c =
    subst (λ (l : List Entry). CanTake (g.O.EntryOut.got c.args.out.now) (g.O.EntryOut.good c.args.out.now) (l ++ plans_from 0 c.args.run.ticks.now)) (sym (nothing_kept _ _ _ _ (c.histories_are.ensures c.args.run.board [] c.requires.ready.opened)))
    (c.requires.good (plans_from 0 c.args.run.ticks.now) (releases_legal _ _ c.requires.ready.accepted))

pub returns-in_err-plan_all-clause-stopped : goal.returns-in_err-plan_all-clause-stopped
returns-in_err-plan_all-clause-stopped g c = λ stopped.
    let cut = subst (λ (l : List Entry). IsCut (g.O.EntryOut.got c.args.out.now) (g.O.EntryOut.got c.plan_all.new.out) (g.O.EntryOut.lost c.plan_all.new.out) (l ++ plans_from 0 c.args.run.ticks.now)) (nothing_kept _ _ _ _ (c.histories_are.ensures c.args.run.board [] c.requires.ready.opened)) c.in_err-plan_all.ensures.stopped in
    cut_run _ _ _ _ _ (plans_from 0 c.args.run.ticks.now) (plans_so_far (workload_in g.B.Board.set g.Y.Body.gives c.args.run) (eager_jobs_in c.args.run) (releases_legal _ _ c.requires.ready.accepted)) cut

pub work-requires-clause-planned : goal.work-requires-clause-planned
work-requires-clause-planned g c κs within =
    let bodies = map g.Y.Body.gives c.args.run.bodies.items in
    let ready = c.requires.ready in
    let same = c.plan_all.ensures.fixed.0 in
    let each = ready.accepted.each in
    record {
      stood = c.in_ok-plan_all.ensures.stands [] ready.opened;
      bodies_each = ready.bodies_each ∙ sym each;
      eager_jobs_each = ready.eager_jobs_each ∙ sym each;
      each = each ∙ ap (λ (q : Set). length q.txns) (sym same);
      few = few_ticks _ c.args.run.ticks.now ready.accepted;
      obedient = subst (λ (q : Set). IsObedient (workload q bodies c.args.run.ticks.now)) (sym same) ready.obedient;
      eager = ready.eager;
      plannable = subst (λ (q : Set). ArePlannable (workload q bodies c.args.run.ticks.now) (eager_jobs_at c.args.run.eager_jobs.now)) (sym same) ready.plannable;
      empty = c.requires.ready.empty;
    }

pub work-requires-clause-good : goal.work-requires-clause-good
work-requires-clause-good g c κs within = can_go_on _ _ (map g.Y.Body.gives c.args.run.bodies.items) c.args.run.ticks.now (eager_jobs_in c.args.run) c.plan_all.ensures.fixed.0 _ _ _ _ _ c.requires.good c.plan_all.ensures.good (plans_handed _ _ _ _ _ _ _ _ (c.histories_are.ensures c.args.run.board [] c.requires.ready.opened) c.in_ok-plan_all.ensures.passed)

pub returns-in_err-board-clause-stopped : goal.returns-in_err-board-clause-stopped
returns-in_err-board-clause-stopped g c = λ stopped.
    stopped_at_work _ _ _ _ _ c.plan_all.ensures.fixed.0 _ _ _ _ _ (plans_handed _ _ _ _ _ _ _ _ (c.histories_are.ensures c.args.run.board [] c.requires.ready.opened) c.in_ok-plan_all.ensures.passed) (c.in_err-board.ensures.cut (search rules))

pub returns-in_err-board-clause-short : goal.returns-in_err-board-clause-short
returns-in_err-board-clause-short g c = λ refused.
    let same = c.in_err-board.ensures.memory (search rules) in
    subst (λ o. IsShortRun (workload_in g.B.Board.set g.Y.Body.gives c.args.run) (eager_jobs_in c.args.run) (g.O.EntryOut.got c.args.out.now) (g.O.EntryOut.got o) (g.O.EntryOut.lost o)) (sym same)
    (cut_short _ _ _ _ _ _ (releases_legal _ _ c.requires.ready.accepted) (plans_handed _ _ _ _ _ _ _ _ (c.histories_are.ensures c.args.run.board [] c.requires.ready.opened) c.in_ok-plan_all.ensures.passed) c.in_ok-plan_all.ensures.none_lost)

pub hand_on-requires-clause-good : goal.hand_on-requires-clause-good
hand_on-requires-clause-good g c =
    can_append_left _ _ _ _ _ c.plan_all.ensures.fixed.0 _ _ _ _ _ _ _ _ c.requires.good (λ history fine. c.work.ensures.good history (c.plan_all.ensures.good history fine))
    (plans_handed _ _ _ _ _ _ _ _ (c.histories_are.ensures c.args.run.board [] c.requires.ready.opened) c.in_ok-plan_all.ensures.passed) c.in_ok-board.ensures.worked

pub returns-in_err-hand_on-clause-stopped : goal.returns-in_err-hand_on-clause-stopped
returns-in_err-hand_on-clause-stopped g c = λ stopped.
    stopped_at_end _ _ _ _ _ c.plan_all.ensures.fixed.0 _ _ _ _ _ _ _ _ (plans_handed _ _ _ _ _ _ _ _ (c.histories_are.ensures c.args.run.board [] c.requires.ready.opened) c.in_ok-plan_all.ensures.passed) c.in_ok-board.ensures.worked c.in_err-hand_on.ensures.stopped

pub returns-clause-whole : goal.returns-clause-whole
returns-clause-whole g c =
    ended_whole _ _ _ _ _ c.plan_all.ensures.fixed.0 _ _ _ _ _ _ _ _ c.hand_on.ensures.stands (plans_handed _ _ _ _ _ _ _ _ (c.histories_are.ensures c.args.run.board [] c.requires.ready.opened) c.in_ok-plan_all.ensures.passed) c.in_ok-board.ensures.worked c.in_ok-hand_on.ensures.passed
