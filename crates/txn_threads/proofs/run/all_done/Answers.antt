use Rattle.std.proofs.Common.{◌≡◌, ◌≤◌, All, true, subst, arith, rules}
use Rattle.std.proofs.lemmas.Bool.{false≢true}
use Rattle.txn_threads.proofs.Running.{so_far}
use Rattle.txn_threads.proofs.run.all_done.Goals as goal

pub loop-i-preserved : goal.loop-i-preserved
loop-i-preserved g c =
    let yes : c.are_done.result ≡ true = search rules in
    so_far (λ w. All (λ m. m.jobs ≤ m.ended) w.members.items) c.args.workers.now c.loop-i.i c.index-workers-i.result c.loop-i.invariant c.loop-i-test.true c.index-workers-i.is (subst (All (λ m. m.jobs ≤ m.ended)) c.as_slice.ensures.value (c.are_done.ensures yes))

pub returns-then-not-are_done : goal.returns-then-not-are_done
returns-then-not-are_done g c = λ no. absurd (false≢true no)

pub returns : goal.returns
returns g c = λ _ i d less. let past = c.loop-i-test.false in c.loop-i.invariant i d (omega (arith, less, past))
