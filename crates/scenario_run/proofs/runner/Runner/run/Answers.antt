use Rattle.std.proofs.Common.{ℕ, List, map, sym, subst}
use Rattle.sim_run.specs.Workloads.{workload, IsObedient}
use Rattle.scenario_run.proofs.runner.Runner.run.Goals as goal

pub run-requires-clause-obedient : goal.run-requires-clause-obedient
run-requires-clause-obedient g c =
    let set = g.B.Board.set c.args.self.now.board in
    subst (λ (bodies : List g.row.Y.Denot). IsObedient (workload set (map g.Y.Body.gives bodies) c.deref.result.now)) (sym c.deref_mut.ensures.value)
    (subst (λ (ticks : List (List ℕ)). IsObedient (workload set (map g.Y.Body.gives c.args.self.now.bodies.items) ticks)) (sym c.deref.ensures.value) c.requires.ready.obedient)
