use Rattle.std.proofs.Common.{◌≡◌, ℕ, ◌≤◌, List, length, map, vec_len, vec_capacity, sym, ap, subst, ◌∙◌, arith, rules}
use Rattle.txn_set.specs.Set.{Set}
use Rattle.step_journal.specs.declared.entry.Entry.{Entry}
use Rattle.turn_cell.specs.Turn.{total}
use Rattle.shared_plant.specs.Seats.{SeatFacts}
use Rattle.law_histories.specs.Sim.{plans_from}
use Rattle.sim_run.specs.Workloads.{workload}
use Rattle.txn_threads.specs.declared.member.Worker.{Worker}
use Rattle.txn_threads.specs.declared.member.Member.{Member}
use Rattle.txn_threads.specs.Runs.{GotMore, part}
use Rattle.plant_run.specs.Deals.{team_of, AreDealt}
use Rattle.plant_run.specs.Runs.{eager_jobs_at}
use Rattle.plant_run.specs.Works.{HasWorked, WasCut, CanGoOn}
use Rattle.plant_run.proofs.Crews.{teams, same_sizes, total_teams}
use Rattle.plant_run.proofs.Gathers.{popped_one, workers_are}
use Rattle.plant_run.proofs.Works.{run_by, opened, newcomers_long, all_may_run, settled, ends, all_done, out_stopped, has_worked, was_cut, may_drain}
use Rattle.plant_run.proofs.work.work.Goals as goal

pub hire-workers-requires-clause-each : goal.hire-workers-requires-clause-each
hire-workers-requires-clause-each g c =
    let o = opened _ _ _ _ _ _ _ _ _ (sym c.requires.planned.each) c.in_ok-plant.ensures.seats c.unwrap-operator.ensures c.pop.ensures.items in
    let long : vec_len c.pop.new.self ≡ length c.pop.new.self.items = search rules in
    (c.requires.planned.bodies_each, long ∙ (ap (λ (l : List SeatFacts). length l) o.0 ∙ newcomers_long _ _ _ _), c.requires.planned.eager_jobs_each)

pub run_all-ran-requires-clause-members : goal.run_all-ran-requires-clause-members
run_all-ran-requires-clause-members g c κs within =
    let p = c.in_ok-plant.plant in let past : List Entry = plans_from 0 c.args.staffed.run.ticks.now in let first : ℕ = g.B.Board.first c.args.staffed.run.board in
    let bodies = map g.Y.Body.gives c.args.staffed.run.bodies.items in let eager_jobs = eager_jobs_at c.args.staffed.run.eager_jobs.now in
    let o = opened _ _ _ _ _ _ _ _ _ (sym c.requires.planned.each) c.in_ok-plant.ensures.seats c.unwrap-operator.ensures c.pop.ensures.items in
    all_may_run g.Y.Body.gives bodies c.args.staffed.run.ticks.now eager_jobs p past first c.as_mut_slice.result.now (c.requires.planned.each ∙ ap (λ (z : Set). length z.txns) (sym c.in_ok-plant.ensures.plant.0))
    (subst (λ (l : List (Worker g.row.B.Denot g.row.Y.Denot)). AreDealt g.Y.Body.gives bodies c.args.staffed.run.ticks.now eager_jobs p.id past first 0 (teams l)) (sym c.as_mut_slice.ensures.value) (c.hire-workers.ensures.dealt p.id past first o.0))

pub run_all-ran-requires-clause-good : goal.run_all-ran-requires-clause-good
run_all-ran-requires-clause-good g c κs within =
    let o = opened _ _ _ _ _ _ _ _ _ (sym c.requires.planned.each) c.in_ok-plant.ensures.seats c.unwrap-operator.ensures c.pop.ensures.items in
    let is = c.histories_are.ensures c.args.staffed.run.board _ c.requires.planned.stood in let bodies = map g.Y.Body.gives c.args.staffed.run.bodies.items in
    let can = subst (λ (z : Set). CanGoOn (workload z bodies c.args.staffed.run.ticks.now) (g.O.EntryOut.got c.args.out.now) (g.O.EntryOut.good c.args.out.now) (g.B.Board.kept c.args.staffed.run.board)) (sym c.in_ok-plant.ensures.plant.0) c.requires.good in
    may_drain (run_by bodies c.args.staffed.run.ticks.now c.in_ok-plant.plant) g.O.EntryOut.got g.O.EntryOut.good c.args.out.now (g.B.Board.kept c.args.staffed.run.board) (g.B.Board.first c.args.staffed.run.board) c.unwrap-operator.result is.rest (omega (arith, is.counted))
    (ap (λ (s : SeatFacts). s.seen) o.1) (ap (λ (s : SeatFacts). s.drained) o.1) can

pub shut-board-requires : goal.shut-board-requires
shut-board-requires g c =
    let e = c.in_ok-plant.ensures in let us : List (Worker g.row.B.Denot g.row.Y.Denot) = c.run_all-ran.new.workers in
    let o = opened _ _ _ _ _ _ _ _ _ (sym c.requires.planned.each) e.seats c.unwrap-operator.ensures c.pop.ensures.items in
    let ended = workers_are c.hire-workers.result c.as_mut_slice.result.now us c.as_mut_slice.ensures.value c.run_all-ran.ensures.members.0 in
    let long : vec_len c.pop.new.self ≡ length c.pop.new.self.items = search rules in
    let places : vec_len c.in_ok-plant.seats ≤ vec_capacity c.in_ok-plant.seats = search rules in
    let popped : length c.pop.new.self.items ≡ length c.args.staffed.run.ticks.now = ap (λ (l : List SeatFacts). length l) o.0 ∙ newcomers_long _ _ _ _ in
    let one = popped_one c.pop.result c.unwrap-operator.result _ _ c.unwrap-operator.ensures c.pop.ensures.len in
    let sum = ap (total (λ (w : Worker g.row.B.Denot g.row.Y.Denot). length (team_of w))) ended in
    let sizes = total_teams (λ (l : List (Member g.row.B.Denot g.row.Y.Denot)). length l) us in
    let same = same_sizes g.Y.Body.gives c.in_ok-plant.plant _ us c.run_all-ran.ensures.members in
    let before = ap (λ (l : List (Worker g.row.B.Denot g.row.Y.Denot)). total length (teams l)) c.as_mut_slice.ensures.value in
    let dealt = c.hire-workers.ensures.dealt _ _ _ o.0 in
    record {
      empty = c.hire-workers.ensures.seats.0;
      places = omega (arith, places, long, popped, one, sum, sizes, same, before, dealt.count, c.hire-workers.ensures.seats.1, c.pop.ensures.capacity);
      all = omega (arith, sum, sizes, same, before, dealt.count, e.plant.3, c.requires.planned.each);
      plant = (settled g.Y.Body.gives (map g.Y.Body.gives c.args.staffed.run.bodies.items) c.args.staffed.run.ticks.now (eager_jobs_at c.args.staffed.run.eager_jobs.now) _ _ _ _ _ _ _ _ _ _ _ _ c.requires.planned.eager e.plant.0 e.plant.2 c.requires.planned.each e.seats
          c.unwrap-operator.ensures c.pop.ensures.items c.hire-workers.ensures.dealt c.as_mut_slice.ensures.value c.run_all-ran.ensures.members ended c.run_all-ran.ensures.operated).of;
    }

pub returns-in-Ok-clause-worked : goal.returns-in-Ok-clause-worked
returns-in-Ok-clause-worked g c =
    let op = c.run_all-ran.new.drain.operator in let e = c.in_ok-plant.ensures in
    let o = opened _ _ _ _ _ _ _ _ _ (sym c.requires.planned.each) e.seats c.unwrap-operator.ensures c.pop.ensures.items in
    let ended = workers_are c.hire-workers.result c.as_mut_slice.result.now c.run_all-ran.new.workers c.as_mut_slice.ensures.value c.run_all-ran.ensures.members.0 in
    let l = settled g.Y.Body.gives (map g.Y.Body.gives c.args.staffed.run.bodies.items) c.args.staffed.run.ticks.now (eager_jobs_at c.args.staffed.run.eager_jobs.now) _ _ _ _ _ _ _ _ _ _ _ _ c.requires.planned.eager e.plant.0 e.plant.2 c.requires.planned.each e.seats
    c.unwrap-operator.ensures c.pop.ensures.items c.hire-workers.ensures.dealt c.as_mut_slice.ensures.value c.run_all-ran.ensures.members ended c.run_all-ran.ensures.operated in
    let is = c.histories_are.ensures c.args.staffed.run.board _ c.requires.planned.stood in let low = is.counted in let closed = c.shut-board.ensures in
    let ends_at = ends _ _ _ _ _ _ _ _ _ _ _ _ _ _ _ _ l closed o.1 c.run_all-ran.ensures.operated (omega (arith, low)) c.run_all-ran.ensures.within in
    let w = run_by (map g.Y.Body.gives c.args.staffed.run.bodies.items) c.args.staffed.run.ticks.now c.in_ok-plant.plant in
    let eager_jobs = eager_jobs_at c.args.staffed.run.eager_jobs.now in
    let whole = c.closed_whole.ensures w eager_jobs c.in_ok-plant.plant c.shut-board.result _ closed l.run (all_done _ _ _ _ _ _ _ _ _ l (c.run_all-ran.ensures.operated.tx ∙ ap (λ (s : SeatFacts). s.tx) o.1) c.in-Ok.ensures.done) in
    let more = subst (λ (n : ℕ). GotMore g.O.EntryOut.got c.args.out.now c.run_all-ran.new.out (part op.seen n op.drained)) ends_at.drained_is c.in-Ok.ensures.got.0 in
    subst (λ (z : Set). HasWorked (workload z (map g.Y.Body.gives c.args.staffed.run.bodies.items) c.args.staffed.run.ticks.now) eager_jobs (g.B.Board.stands c.shut-board.result) (g.O.EntryOut.got c.args.out.now) (g.O.EntryOut.got c.run_all-ran.new.out) (g.B.Board.kept c.args.staffed.run.board) (g.B.Board.kept c.shut-board.result)) e.plant.0
    (has_worked w eager_jobs _ g.O.EntryOut.got _ _ _ _ op.seen _ _ op.drained whole closed.stood is.rest (omega (arith, low)) ends_at.begins ends_at.low ends_at.within ends_at.kept_is more)

pub returns-clause-cut : goal.returns-clause-cut
returns-clause-cut g c = λ stopped.
    let op = c.run_all-ran.new.drain.operator in let e = c.in_ok-plant.ensures in
    let o = opened _ _ _ _ _ _ _ _ _ (sym c.requires.planned.each) e.seats c.unwrap-operator.ensures c.pop.ensures.items in
    let ended = workers_are c.hire-workers.result c.as_mut_slice.result.now c.run_all-ran.new.workers c.as_mut_slice.ensures.value c.run_all-ran.ensures.members.0 in
    let l = settled g.Y.Body.gives (map g.Y.Body.gives c.args.staffed.run.bodies.items) c.args.staffed.run.ticks.now (eager_jobs_at c.args.staffed.run.eager_jobs.now) _ _ _ _ _ _ _ _ _ _ _ _ c.requires.planned.eager e.plant.0 e.plant.2 c.requires.planned.each e.seats
    c.unwrap-operator.ensures c.pop.ensures.items c.hire-workers.ensures.dealt c.as_mut_slice.ensures.value c.run_all-ran.ensures.members ended c.run_all-ran.ensures.operated in
    let is = c.histories_are.ensures c.args.staffed.run.board _ c.requires.planned.stood in let low = is.counted in let closed = c.shut-board.ensures in
    let ends_at = ends _ _ _ _ _ _ _ _ _ _ _ _ _ _ _ _ l closed o.1 c.run_all-ran.ensures.operated (omega (arith, low)) c.run_all-ran.ensures.within in
    let w = run_by (map g.Y.Body.gives c.args.staffed.run.bodies.items) c.args.staffed.run.ticks.now c.in_ok-plant.plant in
    let eager_jobs = eager_jobs_at c.args.staffed.run.eager_jobs.now in
    let so = (c.closed_so_far.ensures w eager_jobs c.in_ok-plant.plant c.shut-board.result _ closed l.run).0 in
    let got = out_stopped _ _ _ _ _ _ _ _ _ l _ _ _ _ _ c.shut-board.result c.no_refusal.ensures c.never_unplanned.ensures closed _ e.plant.0 c.requires.planned.obedient c.requires.planned.plannable _ _ c.in-Err.is c.run_all-ran.ensures.stop _ _ c.run_all-ran.ensures.got in
    subst (λ (z : Set). WasCut (workload z (map g.Y.Body.gives c.args.staffed.run.bodies.items) c.args.staffed.run.ticks.now) eager_jobs (g.O.EntryOut.got c.args.out.now) (g.O.EntryOut.got c.run_all-ran.new.out) (g.O.EntryOut.lost c.run_all-ran.new.out) (g.B.Board.kept c.args.staffed.run.board)) e.plant.0
    (was_cut w eager_jobs g.O.EntryOut.got g.O.EntryOut.lost _ _ _ _ _ _ _ op so is.rest (omega (arith, low)) ends_at.begins ends_at.drained_is ends_at.within ends_at.kept_is got.1)

pub returns-clause-cause : goal.returns-clause-cause
returns-clause-cause g c = λ stopped.
    let e = c.in_ok-plant.ensures in
    let ended = workers_are c.hire-workers.result c.as_mut_slice.result.now c.run_all-ran.new.workers c.as_mut_slice.ensures.value c.run_all-ran.ensures.members.0 in
    let l = settled g.Y.Body.gives (map g.Y.Body.gives c.args.staffed.run.bodies.items) c.args.staffed.run.ticks.now (eager_jobs_at c.args.staffed.run.eager_jobs.now) _ _ _ _ _ _ _ _ _ _ _ _ c.requires.planned.eager e.plant.0 e.plant.2 c.requires.planned.each e.seats
    c.unwrap-operator.ensures c.pop.ensures.items c.hire-workers.ensures.dealt c.as_mut_slice.ensures.value c.run_all-ran.ensures.members ended c.run_all-ran.ensures.operated in
    (out_stopped _ _ _ _ _ _ _ _ _ l _ _ _ _ _ c.shut-board.result c.no_refusal.ensures c.never_unplanned.ensures c.shut-board.ensures _ e.plant.0 c.requires.planned.obedient c.requires.planned.plannable _ _ c.in-Err.is c.run_all-ran.ensures.stop _ _ c.run_all-ran.ensures.got).0
