use Rattle.txn_threads.specs.Runs.{MayRun}
use Rattle.seat_tests.proofs.Freshness.{all_with}
use Rattle.seat_tests.proofs.workers.give.Goals as goal

pub returns : goal.returns
returns g c =
    all_with (MayRun c.args.plant.now) c.args.members.now.items c.push.new.self.items c.args.member c.requires.0 c.requires.1 c.in_ok-push.ensures.items
