use Rattle.std.proofs.Common.{◌≡◌, [], map, sym, ap, ◌∙◌, arith}
use Rattle.txn_set.specs.Set.{Set}
use Rattle.law_histories.specs.Sim.{Workload}
use Rattle.sim_run.specs.Workloads.{workload}
use Rattle.scenario_run.specs.Outs.{Begun}
use Rattle.scenario_run.proofs.Handing.{on_err}
use Rattle.scenario_run.proofs.Outs.{Got, made, none_got, can_take, got_front}
use Rattle.scenario_run.proofs.over.run_out.Goals as goal

pub run-requires-clause-good : goal.run-requires-clause-good
run-requires-clause-good g c = λ history sim.
    let d = g.D.Disk in
    let out = c.args.out.now in
    let w : Workload = workload (g.B.Board.set c.args.runner.now.board) (map g.Y.Body.gives c.args.runner.now.bodies.items) c.args.runner.now.ticks.items in
    let begun = g.T.Journaled.begun in
    let is : begun ≡ made out.names.now out.set.now out.there.items out.room out.log.disk = c.requires.begun ∙ ap (λ (s : Set). made out.names.now s out.there.items out.room out.log.disk) (sym c.requires.same) in
    let none : Got d.seen d.may_leave d.moment d.left_since begun out.standing out.names.now out.set.now out.log out.there.items out.kept.items out.room [] =
    none_got d.seen d.may_leave d.moment d.left_since begun out.standing out.names.now out.set.now out.log out.there.items out.kept.items out.room is c.requires.fresh.0 c.requires.fresh.1 c.requires.going in
    let room : begun.room ≡ out.room = ap (λ (x : Begun _). x.room) c.requires.begun in
    can_take d.seen d.may_leave d.moment d.left_since begun w (Got d.seen d.may_leave d.moment d.left_since begun out.standing out.names.now out.set.now out.log out.there.items out.kept.items out.room) history none
    (ap (λ (x : Begun _). x.set) c.requires.begun) (omega (arith, room, c.requires.places history sim)) sim

pub returns-clause-halted : goal.returns-clause-halted
returns-clause-halted g c =
    let d = g.D.Disk in
    let out = c.args.out.now in
    let new = c.run.new.out in
    let w : Workload = workload (g.B.Board.set c.args.runner.now.board) (map g.Y.Body.gives c.args.runner.now.bodies.items) c.args.runner.now.ticks.items in
    let begun = g.T.Journaled.begun in
    let is : begun ≡ made out.names.now out.set.now out.there.items out.room out.log.disk = c.requires.begun ∙ ap (λ (s : Set). made out.names.now s out.there.items out.room out.log.disk) (sym c.requires.same) in
    let none : Got d.seen d.may_leave d.moment d.left_since begun out.standing out.names.now out.set.now out.log out.there.items out.kept.items out.room [] =
    none_got d.seen d.may_leave d.moment d.left_since begun out.standing out.names.now out.set.now out.log out.there.items out.kept.items out.room is c.requires.fresh.0 c.requires.fresh.1 c.requires.going in
    on_err c.run.result
    (λ h. got_front d.seen d.may_leave d.moment d.left_since begun w new.standing new.names.now new.set.now new.log new.there.items new.kept.items new.room
    (Got d.seen d.may_leave d.moment d.left_since begun out.standing out.names.now out.set.now out.log out.there.items out.kept.items out.room) none
    out.names.now out.there.items out.room out.log.disk c.requires.begun h)
    c.run.ensures.stopped
