use Rattle.std.proofs.Common.{◌≡◌, ◌<◌, length, arith, rules}
use Rattle.txn_threads.specs.Runs.{Cleared}
use Rattle.txn_threads.proofs.Running.{upto_step, upto_none, upto_all}
use Rattle.txn_threads.proofs.run.clear_members.Goals as goal

pub loop-i-init : goal.loop-i-init
loop-i-init g c = upto_none (Cleared g.Y.Body.gives g.Y.Body.stands) c.args.members.now.items

pub loop-i-preserved : goal.loop-i-preserved
loop-i-preserved g c =
    let n : c.len-i-end.result ≡ length c.args.members.now.items = search rules in let same = c.loop-i.invariant.0 in
    let less : c.loop-i.i < length c.loop-i.members.items = omega (arith, n, same, c.loop-i-test.true) in
    upto_step (Cleared g.Y.Body.gives g.Y.Body.stands) c.args.members.now.items c.loop-i.members.items c.loop-i.i c.index_mut-member.result.now c.clear.new.self c.loop-i.invariant less c.index_mut-member.ensures.value c.clear.ensures

pub returns : goal.returns
returns g c =
    let n = c.len-i-end.ensures in let past = c.loop-i-test.false in
    upto_all (Cleared g.Y.Body.gives g.Y.Body.stands) c.args.members.now.items c.loop-i.members.items c.loop-i.i c.loop-i.invariant (omega (arith, n, past))
