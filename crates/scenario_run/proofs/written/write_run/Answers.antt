use Rattle.std.proofs.Common.{rules, ◌≡◌, ◌≤◌, ◌+◌, ℕ, List, inr, map, length, sym, subst, arith}
use Rattle.law_runs.specs.Plannable.{total_eager_jobs}
use Rattle.job_rows.specs.Upkeep.{planned_jobs}
use Rattle.law_runs.specs.Histories.{IsRunOf}
use Rattle.scenario_run.proofs.Counting.{planned_run}
use Rattle.scenario_run.proofs.Wholes.{on_ok}
use Rattle.scenario_run.specs.Eager.{IsRunTextBy}
use Rattle.scenario_run.specs.Eager.{after_head}
use Rattle.scenario_run.specs.Lines.{IsTextBy}
use Rattle.plant_run.specs.Runs.{eager_jobs_at}
use Rattle.scenario_run.specs.Written.{WroteFront}
use Rattle.sim_run.specs.declared.fault.RunFault.TheVariants.{Writing, Memory}
use Rattle.law_histories.specs.Sim.{Workload}
use Rattle.sim_run.specs.Workloads.{workload}
use Rattle.std.specs.List.{sum}
use Rattle.step_journal.specs.declared.entry.Entry.{Entry}
use Rattle.txn_set.specs.Set.{Set}
use Rattle.scenario_run.proofs.Parts.{fixed_text, wrote_of, wrote_front, front_of, of_err}
use Rattle.scenario_run.proofs.written.write_run.Goals as goal

pub write_fixed-requires-clause-places : goal.write_fixed-requires-clause-places
write_fixed-requires-clause-places g c κs within = omega (arith, c.requires.places)

pub returns-then-is_fixed-clause-whole : goal.returns-then-is_fixed-clause-whole
returns-then-is_fixed-clause-whole g c =
    let w : Workload = workload (g.B.Board.set c.args.run.board) (map g.Y.Body.gives c.args.run.bodies.items) c.args.run.ticks.now in
    let none : (tx : ℕ) → eager_jobs_at c.args.run.eager_jobs.now tx ≡ 0 = search rules in
    on_ok c.write_fixed.result
    (wrote_of (IsTextBy c.args.report.names.now c.args.report.admitted w) (IsRunTextBy c.args.report.names.now c.args.report.admitted w (eager_jobs_at c.args.run.eager_jobs.now)) _ _
    (λ text h. fixed_text c.args.report.names.now c.args.report.admitted w (eager_jobs_at c.args.run.eager_jobs.now) text none h))
    c.write_fixed.ensures.whole

pub returns-then-is_fixed-clause-cut : goal.returns-then-is_fixed-clause-cut
returns-then-is_fixed-clause-cut g c = λ e.
    let w : Workload = workload (g.B.Board.set c.args.run.board) (map g.Y.Body.gives c.args.run.bodies.items) c.args.run.ticks.now in
    let none : (tx : ℕ) → eager_jobs_at c.args.run.eager_jobs.now tx ≡ 0 = search rules in
    front_of (IsTextBy c.args.report.names.now c.args.report.admitted w) (IsRunTextBy c.args.report.names.now c.args.report.admitted w (eager_jobs_at c.args.run.eager_jobs.now)) _ _
    (λ text h. fixed_text c.args.report.names.now c.args.report.admitted w (eager_jobs_at c.args.run.eager_jobs.now) text none h)
    (of_err c.write_fixed.result Writing c.write_fixed.ensures.front e)

pub returns-then-is_fixed-clause-short : goal.returns-then-is_fixed-clause-short
returns-then-is_fixed-clause-short g c = λ e.
    let w : Workload = workload (g.B.Board.set c.args.run.board) (map g.Y.Body.gives c.args.run.bodies.items) c.args.run.ticks.now in
    let none : (tx : ℕ) → eager_jobs_at c.args.run.eager_jobs.now tx ≡ 0 = search rules in
    inr (front_of (IsTextBy c.args.report.names.now c.args.report.admitted w) (IsRunTextBy c.args.report.names.now c.args.report.admitted w (eager_jobs_at c.args.run.eager_jobs.now)) _ _
    (λ text h. fixed_text c.args.report.names.now c.args.report.admitted w (eager_jobs_at c.args.run.eager_jobs.now) text none h)
    (of_err c.write_fixed.result Memory c.write_fixed.ensures.front e))

pub write_history-requires-clause-places : goal.write_history-requires-clause-places
write_history-requires-clause-places g c =
    let set = g.B.Board.set c.args.run.board in
    let eager_jobs = eager_jobs_at c.args.run.eager_jobs.now in
    let w : Workload = workload set (map g.Y.Body.gives c.args.run.bodies.items) c.args.run.ticks.now in
    let history : List Entry = c.in_ok-board.history.items in
    let all : planned_jobs history ≡ sum (map length w.releases) + total_eager_jobs set eager_jobs = planned_run w eager_jobs history c.requires.ready.accepted.each c.in_ok-board.ensures.run in
    let few : planned_jobs history ≤ c.args.report.writer.room = subst (λ (n : ℕ). n ≤ c.args.report.writer.room) (sym all) c.requires.places in
    subst (λ (l : List Entry). planned_jobs l ≤ c.args.report.writer.room) (sym c.as_slice.ensures.value) few

pub returns-in_ok-board-clause-cut : goal.returns-in_ok-board-clause-cut
returns-in_ok-board-clause-cut g c = λ is.
    let admitted = c.args.report.admitted in
    let e = c.requires.opened.head_is in
    let set = g.B.Board.set c.args.run.board in
    let eager_jobs = eager_jobs_at c.args.run.eager_jobs.now in
    let w : Workload = workload set (map g.Y.Body.gives c.args.run.bodies.items) c.args.run.ticks.now in
    let history : List Entry = c.as_slice.result.now in
    let run : IsRunOf w eager_jobs history = subst (IsRunOf w eager_jobs) (sym c.as_slice.ensures.value) c.in_ok-board.ensures.run in
    wrote_front c.args.report.names.now admitted w eager_jobs c.args.report.head.items history e run (g.K.Sink.taken c.args.sink.now) (g.K.Sink.taken c.write_history.new.sink)
    (subst (λ (s : Set). WroteFront (λ t. t ≡ after_head c.args.report.head.items c.args.report.names.now s history) (g.K.Sink.taken c.args.sink.now) (g.K.Sink.taken c.write_history.new.sink))
    c.in_ok-board.ensures.set (of_err c.write_history.result Writing c.write_history.ensures.front is))

pub returns-in_ok-board-clause-short : goal.returns-in_ok-board-clause-short
returns-in_ok-board-clause-short g c = λ is.
    let admitted = c.args.report.admitted in
    let e = c.requires.opened.head_is in
    let set = g.B.Board.set c.args.run.board in
    let eager_jobs = eager_jobs_at c.args.run.eager_jobs.now in
    let w : Workload = workload set (map g.Y.Body.gives c.args.run.bodies.items) c.args.run.ticks.now in
    let history : List Entry = c.as_slice.result.now in
    let run : IsRunOf w eager_jobs history = subst (IsRunOf w eager_jobs) (sym c.as_slice.ensures.value) c.in_ok-board.ensures.run in
    inr (wrote_front c.args.report.names.now admitted w eager_jobs c.args.report.head.items history e run (g.K.Sink.taken c.args.sink.now) (g.K.Sink.taken c.write_history.new.sink)
    (subst (λ (s : Set). WroteFront (λ t. t ≡ after_head c.args.report.head.items c.args.report.names.now s history) (g.K.Sink.taken c.args.sink.now) (g.K.Sink.taken c.write_history.new.sink))
    c.in_ok-board.ensures.set (of_err c.write_history.result Memory c.write_history.ensures.front is)))
