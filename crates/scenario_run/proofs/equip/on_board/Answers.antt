use Rattle.std.proofs.Common.{rules, ◌≡◌, List, length, sym, ap, subst, ◌∙◌, arith, ℕ}
use Rattle.txn_set.specs.Set.{Set}
use Rattle.sim_run.specs.Workloads.{workload, AreAccepted, IsObedient}
use Rattle.scenario_run.specs.Runs.{functions_of}
use Rattle.scenario_run.proofs.equip.on_board.Goals as goal

pub returns-clause-ready : goal.returns-clause-ready
returns-clause-ready c =
    let board = c.in-Ok.board.set in
    let bodies = c.args.bodies in
    let ticks : List (List ℕ) = bodies.ticks.items in
    let ready = c.requires in
    let set_on : board ≡ c.args.set = c.in-Ok.ensures.ok.0 in
    let each : length bodies.scripts.items ≡ length board.txns = ready.scripts_each ∙ ap (λ (q : Set). length q.txns) (sym set_on) in
    let many : c.len.result ≡ length bodies.scripts.items = search rules in
    let room : c.in-Ok.board.journal.room ≡ 4096 = ap (λ j. j.room) c.in-Ok.ensures.ok.1 in
    let same : workload c.args.set (functions_of bodies.scripts.items) ticks ≡ workload board (functions_of bodies.scripts.items) ticks =
    ap (λ (q : Set). workload q (functions_of bodies.scripts.items) ticks) (sym set_on) in
    record {
      opened = c.in-Ok.ensures.ok.2;
      bodies_each = each;
      serials_each = c.in-Ok-serials_for.ensures ∙ (many ∙ each);
      accepted = subst (λ (q : Set). AreAccepted q ticks) (sym set_on) ready.accepted;
      obedient = subst IsObedient same ready.obedient;
      more = omega (arith, room);
    }

pub returns-clause-runs : goal.returns-clause-runs
returns-clause-runs c =
    ap (λ (q : Set). workload q (functions_of c.args.bodies.scripts.items) c.args.bodies.ticks.items) c.in-Ok.ensures.ok.0
