use Rattle.std.proofs.Common.{◌<◌, length, subst}
use Rattle.core_tables.specs.PendingTables.{HasDeadline}
use Rattle.rt_base.proofs.Ranks.{count_less}
use Rattle.core_tables.proofs.Dues.{rank_low, taken, first_found}
use Rattle.core_tables.proofs.ranks.first_due.Goals as goal

pub returns-then-head-deadlines : goal.returns-then-head-deadlines
returns-then-head-deadlines g c =
    let low : c.in-Some.rank < length c.args.heads.now = rank_low c.args.heads.now c.args.waits.now.order c.args.ranks c.in-Some.rank c.requires.ranks (c.loop-rank.invariant.pending c.in-Some.rank c.in-Some.ensures.least.has) in
    first_found c.args.heads.now c.args.deadlines.now c.args.waits.now.order c.loop-rank.left c.args.tick c.in-Some.rank c.in-Some-heads.head c.in-Some.ensures.least
    (subst (HasDeadline c.args.heads.now c.args.deadlines.now c.args.waits.now.order c.in-Some.rank c.in-Some-heads.head) c.if-head-deadlines.true
    (taken c.args.heads.now c.args.deadlines.now c.args.waits.now.order c.in-Some.rank c.tx_at-tx.result.0 c.in-Some-heads.head low c.tx_at-tx.ensures.tx c.in-Some-heads.is))
    c.loop-rank.invariant.passed

pub loop-rank-smaller : goal.loop-rank-smaller
loop-rank-smaller g c =
    count_less c.loop-rank.left c.without-left.result c.in-Some.rank (length c.args.heads.now) c.without-left.ensures c.in-Some.ensures.least.has
    (rank_low c.args.heads.now c.args.waits.now.order c.args.ranks c.in-Some.rank c.requires.ranks (c.loop-rank.invariant.pending c.in-Some.rank c.in-Some.ensures.least.has))
