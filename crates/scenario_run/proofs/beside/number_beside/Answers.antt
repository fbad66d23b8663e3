use Rattle.std.proofs.Common.{◌≡◌, ◌+◌, List, [], map, subst, ◌∙◌, arith}
use Rattle.step_journal.specs.declared.entry.Entry.{Entry}
use Rattle.law_histories.specs.Sim.{Workload}
use Rattle.sim_run.specs.Workloads.{workload}
use Rattle.scenario_run.specs.Compared.{Begins}
use Rattle.scenario_run.proofs.Outs.{too_few, first_is}
use Rattle.scenario_run.proofs.beside.number_beside.Goals as goal

pub unreachable-requires-in_default-first_other : goal.unreachable-requires-in_default-first_other
unreachable-requires-in_default-first_other g c =
    let h = c.in-Ok.ensures.whole in
    let same : c.as_slice.result.now ≡ h.history = c.as_slice.ensures ∙ h.grown [] c.requires.empty in
    too_few c.args.there.now h.history (subst (λ (l : List Entry). Begins c.args.there.now l) same c.in_default-first_other.ensures) (c.requires.more h.history h.sim)

pub returns : goal.returns
returns g c =
    let w : Workload = workload (g.B.Board.set c.args.runner.now.board) (map g.Y.Body.gives c.args.runner.now.bodies.items) c.args.runner.now.ticks.items in
    let h = c.in-Ok.ensures.whole in
    let same : c.as_slice.result.now ≡ h.history = c.as_slice.ensures ∙ h.grown [] c.requires.empty in
    let first = c.in-Some.ensures in
    let is : c.saturating_add.result ≡ c.in-Some.place + 1 = omega (arith, c.saturating_add.ensures, first.within) in
    first_is w c.args.there.now h.history c.as_slice.result.now c.in-Some.place c.saturating_add.result h.sim same first is
