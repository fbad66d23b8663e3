use Rattle.std.proofs.Common.{◌<◌, ◌+◌, length, Some, get_or, sym, ap, ◌∙◌, subst}
use Rattle.core_tables.specs.PendingTables.{IsLeastPassed}
use Rattle.rt_base.proofs.Ranks.{count_less}
use Rattle.core_tables.proofs.Dues.{rank_low, still_left, taken, not_there, least_none, least_some, least_all}
use Rattle.core_tables.proofs.ranks.least_deadline.Goals as goal
use Rattle.core_tables.proofs.ranks.least_deadline.Goals.{in-Some-heads, in_default-heads}

pub loop-rank-smaller : goal.loop-rank-smaller
loop-rank-smaller g c =
    count_less c.loop-rank.left c.without-left.result c.in-Some.rank (length c.args.heads.now) c.without-left.ensures c.in-Some.ensures.least.has
    (rank_low c.args.heads.now c.args.waits.now.order c.args.ranks c.in-Some.rank c.requires.ranks (c.loop-rank.invariant.pending c.in-Some.rank c.in-Some.ensures.least.has))

pub loop-rank-preserved : goal.loop-rank-preserved
loop-rank-preserved g c =
    let low : c.in-Some.rank < length c.args.heads.now = rank_low c.args.heads.now c.args.waits.now.order c.args.ranks c.in-Some.rank c.requires.ranks (c.loop-rank.invariant.pending c.in-Some.rank c.in-Some.ensures.least.has) in
    record {
      pending = λ r h. still_left c.loop-rank.left c.without-left.result c.args.ranks c.in-Some.rank r c.without-left.ensures c.loop-rank.invariant.pending h;
      passed = elim c.match-heads-tx.branch [
        | in-Some-heads w ↦ subst (IsLeastPassed c.args.heads.now c.args.deadlines.now c.args.waits.now.order c.without-left.result) (sym (w.least-is ∙ ap Some w.earlier.ensures))
            (least_some c.args.heads.now c.args.deadlines.now c.args.waits.now.order c.loop-rank.left c.without-left.result c.in-Some.rank (w.in-Some-heads.head.release + get_or c.args.deadlines.now c.tx_at-tx.result.0 0) w.in-Some-heads.head c.loop-rank.least c.without-left.ensures
            (taken c.args.heads.now c.args.deadlines.now c.args.waits.now.order c.in-Some.rank c.tx_at-tx.result.0 w.in-Some-heads.head low c.tx_at-tx.ensures.tx w.in-Some-heads.is)
            c.loop-rank.invariant.passed)
        | in_default-heads w ↦ subst (IsLeastPassed c.args.heads.now c.args.deadlines.now c.args.waits.now.order c.without-left.result) (sym w.least-is)
            (least_none c.args.heads.now c.args.deadlines.now c.args.waits.now.order c.loop-rank.left c.without-left.result c.in-Some.rank c.loop-rank.least c.without-left.ensures
            (not_there c.args.heads.now c.args.waits.now.order c.in-Some.rank c.tx_at-tx.result.0 c.tx_at-tx.ensures.tx w.in_default-heads.not-Some) c.loop-rank.invariant.passed)
      ];
    }

pub returns : goal.returns
returns g c = least_all c.args.heads.now c.args.deadlines.now c.args.waits.now.order c.loop-rank.left c.loop-rank.least c.in_default.ensures.least c.loop-rank.invariant.passed
