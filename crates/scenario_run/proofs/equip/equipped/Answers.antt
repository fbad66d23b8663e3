use Rattle.std.proofs.Common.{List, sym, ap, subst, ◌∙◌}
use Rattle.law_histories.specs.Sim.{Body}
use Rattle.sim_run.specs.Workloads.{workload}
use Rattle.txn_set.specs.Set.{Set}
use Rattle.scenario_run.specs.Runs.{IsReady, functions_of}
use Rattle.scenario_run.proofs.Ready.{functions_same}
use Rattle.scenario_run.proofs.equip.equipped.Goals as goal

pub on_board-requires : goal.on_board-requires
on_board-requires c =
    let bodies = c.args.plan.bodies in
    subst (λ (q : Set). IsReady q bodies.scripts.items bodies.ticks.items bodies.eager_jobs.items) (sym c.in-Ok.ensures.0) c.requires.1.ready

pub returns-in-Ok-on_board-clause-begun : goal.returns-in-Ok-on_board-clause-begun
returns-in-Ok-on_board-clause-begun c = λ s p.
    let plan = c.args.plan in
    let scripts = plan.bodies.scripts.items in
    let ticks = plan.bodies.ticks.items in
    record {
      admitted_without_eager = p.admitted_without_eager;
      runs = c.in-Ok-on_board.ensures.runs ∙ (ap (λ (q : Set). workload q (functions_of scripts) ticks) c.in-Ok.ensures.0
          ∙ (ap (λ (l : List Body). workload plan.set l ticks) (functions_same scripts) ∙ p.runs));
      names_are = p.names_are;
      set_is = p.set_is;
      room_is = p.room_is;
      empty = c.in-Ok.ensures.1;
      enough = c.in-Ok.ensures.2;
    }
