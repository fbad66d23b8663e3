use Rattle.std.proofs.Common.{◌≤◌, arith}
use Rattle.txn_threads.proofs.Running.{so_far}
use Rattle.txn_threads.proofs.run.are_done.Goals as goal

pub loop-i-preserved : goal.loop-i-preserved
loop-i-preserved g c =
    let m = c.index-members-i.result in
    let not = c.if-member.false in
    let ok : m.jobs ≤ m.ended = omega (arith, not) in
    so_far (λ m. m.jobs ≤ m.ended) c.args.members.now c.loop-i.i m c.loop-i.invariant c.loop-i-test.true c.index-members-i.is ok

pub returns : goal.returns
returns g c told i d less = let past = c.loop-i-test.false in c.loop-i.invariant i d (omega (arith, less, past))
