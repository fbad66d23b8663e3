use Rattle.std.proofs.Common.{All}
use Rattle.step_script.specs.declared.script.Script.{Script}
use Rattle.txn_threads.specs.declared.member.Worker.{Worker}
use Rattle.txn_threads.specs.Runs.{MayRun}
use Rattle.seat_tests.proofs.Freshness.{all_with}
use Rattle.seat_tests.proofs.workers.hire.Goals as goal

pub returns : goal.returns
returns g c =
    all_with (λ (w : Worker g.row.B.Denot Script). All (MayRun c.args.plant.now) w.members.items) c.args.workers.now.items c.push.new.self.items c.args.worker c.requires.all c.requires.one c.in_ok-push.ensures.items
