use Rattle.std.proofs.Common.{ℕ, List, ◌∙◌}
use Rattle.step_journal.specs.declared.entry.Entry.{Entry}
use Rattle.law_histories.specs.Sim.{Workload}
use Rattle.law_runs.specs.Histories.{IsRunOf}
use Rattle.sim_run.specs.Workloads.{workload}
use Rattle.law_runs.proofs.Fixed.{fixed_sim}
use Rattle.plant_run.specs.Runs.{eager_jobs_at}
use Rattle.scenario_run.specs.Runs.{functions_of}
use Rattle.scenario_run.proofs.Summaries.{summarized, legal_as, fixed_fits}
use Rattle.scenario_run.proofs.loading.summary_on.Goals as goal

pub summary-requires : goal.summary-requires
summary-requires g c =
    let history : List Entry = c.in_ok-board.history.items in
    legal_as (g.B.Board.set c.args.run.board) c.set.result.now history c.as_slice.result.now (c.set.ensures ∙ c.in_ok-board.ensures.set)
    c.as_slice.ensures.value c.in_ok-board.ensures.run.so_far.legal

pub returns : goal.returns
returns g c =
    let history : List Entry = c.in_ok-board.history.items in
    let eager_jobs : ℕ → ℕ = eager_jobs_at c.args.run.eager_jobs.now in
    let w : Workload = workload (g.B.Board.set c.args.run.board) (functions_of c.args.run.bodies.items) c.args.run.ticks.now in
    let run : IsRunOf w eager_jobs history = c.in_ok-board.ensures.run in
    summarized (λ t. t.items) c.summary.result w c.set.result.now history c.as_slice.result.now
    (c.set.ensures ∙ c.in_ok-board.ensures.set) c.as_slice.ensures.value
    (fixed_sim w eager_jobs history c.requires.fixed run) (fixed_fits w eager_jobs history c.requires.compiled c.requires.fixed run) c.summary.ensures
