use Rattle.std.proofs.Common.{◌≡◌, length, rules}
use Rattle.txn_threads.proofs.Running.{so_far}
use Rattle.txn_threads.proofs.run.has_members.Goals as goal

pub loop-i-preserved : goal.loop-i-preserved
loop-i-preserved g c =
    let none : length c.index-workers-i.result.members.items ≡ 0 = search rules in
    so_far (λ w. length w.members.items ≡ 0) c.args.workers.now c.loop-i.i c.index-workers-i.result c.loop-i.invariant c.loop-i-test.true c.index-workers-i.is none
