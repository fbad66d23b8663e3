use Rattle.std.proofs.Common.{◌≡◌, ◌∙◌, List, Option, ap, length, subst, sym}
use Rattle.std.proofs.lemmas.List.{length-set}
use Rattle.rt_base.specs.declared.ids.TxId.{TxId}
use Rattle.inherit_prio.specs.Waits.{on_of, unless_on, AreRanksOn}
use Rattle.rt_base.proofs.Ranks.{count_less}
use Rattle.inherit_prio.proofs.Ranks.{least_within, ranking_of, ranks_step, remains_all, remains_step}
use Rattle.inherit_prio.proofs.waits.stop_waiting.Goals as goal

pub loop-rank-preserved : goal.loop-rank-preserved
loop-rank-preserved g c =
    let ranking = ranking_of c.args.ranking.now.prios c.args.ranking.now.order c.is_ranked.ensures.order in
    let on = c.loop-rank.on.items in
    let size : length on ≡ length c.args.ranking.now.order = c.loop-rank.invariant.size ∙ (c.requires.size ∙ sym c.is_ranked.ensures.order.size) in
    let waiting = ranks_step on c.args.ranking.now.order c.args.tx.0 c.in-Some.rank c.loop-rank.left c.without-left.result c.tx-waiter.result size ranking c.loop-rank.invariant.waiting c.in-Some.ensures.least c.tx-waiter.ensures.tx c.without-left.ensures in
    record {
      size = ap length c.set.ensures.items ∙ (length-set on c.tx-waiter.result.0 _ ∙ c.loop-rank.invariant.size);
      waiting = subst (λ (l : List (Option TxId)). AreRanksOn l c.args.ranking.now.order c.args.tx.0 c.without-left.result) (sym c.set.ensures.items) waiting;
      remains = λ t.
          ap (λ (l : List (Option TxId)). unless_on c.args.tx.0 (on_of l t)) c.set.ensures.items
          ∙ (remains_step on c.args.ranking.now.order c.args.tx.0 c.in-Some.rank c.loop-rank.left c.tx-waiter.result size ranking c.loop-rank.invariant.waiting c.in-Some.ensures.least c.tx-waiter.ensures.tx t
          ∙ c.loop-rank.invariant.remains t);
    }

pub loop-rank-smaller : goal.loop-rank-smaller
loop-rank-smaller g c =
    count_less c.loop-rank.left c.without-left.result c.in-Some.rank _ c.without-left.ensures c.in-Some.ensures.least.has
    (least_within c.loop-rank.on.items c.args.ranking.now.order c.args.tx.0 c.in-Some.rank c.loop-rank.left c.loop-rank.invariant.waiting c.in-Some.ensures.least)

pub returns-clause-freed : goal.returns-clause-freed
returns-clause-freed g c t =
    sym (remains_all c.loop-rank.on.items c.args.ranking.now.order c.args.tx.0 c.loop-rank.left (c.loop-rank.invariant.size ∙ (c.requires.size ∙ sym c.is_ranked.ensures.order.size)) (ranking_of c.args.ranking.now.prios c.args.ranking.now.order c.is_ranked.ensures.order) c.loop-rank.invariant.waiting c.in_default.ensures.least t)
    ∙ c.loop-rank.invariant.remains t
