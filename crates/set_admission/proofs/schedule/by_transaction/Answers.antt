use Rattle.std.proofs.Common.{◌∙◌, arith}
use Rattle.std.proofs.lemmas.List.{length-set}
use Rattle.set_admission.proofs.Tables.{answer-is, table-more, table-all, place-inside}
use Rattle.set_admission.proofs.schedule.by_transaction.Goals as goal

pub index_mut-requires : goal.index_mut-requires
index_mut-requires c =
    let inside = place-inside c.args.set.now c.args.order.now c.loop-rank.found.items c.requires.order c.loop-rank.invariant.one_each c.loop-rank.rank (record { 0 = 0 }) c.loop-rank-test.true in
    omega (arith, inside)

pub loop-rank-preserved : goal.loop-rank-preserved
loop-rank-preserved c = record {
  one_each = length-set c.loop-rank.found.items _ _ ∙ c.loop-rank.invariant.one_each;
  each =
      table-more c.args.set.now c.args.order.now c.loop-rank.found.items c.loop-rank.rank _ _ c.loop-rank-test.true
      (place-inside c.args.set.now c.args.order.now c.loop-rank.found.items c.requires.order c.loop-rank.invariant.one_each c.loop-rank.rank _ c.loop-rank-test.true)
      (answer-is c.args.set.now c.requires.compiled c.args.order.now c.requires.order c.args.answers.now c.requires.answers c.loop-rank.rank _ c.loop-rank-test.true)
      c.loop-rank.invariant.each;
}

pub returns : goal.returns
returns c =
    table-all c.args.set.now c.args.order.now c.loop-rank.found.items c.requires.order c.loop-rank.invariant.one_each
    (λ k d below. c.loop-rank.invariant.each k d (omega arith))
