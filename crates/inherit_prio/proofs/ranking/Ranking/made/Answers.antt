use Rattle.std.proofs.Common.{ap, length, arith}
use Rattle.inherit_prio.proofs.Ranked.{ranked_by}
use Rattle.inherit_prio.proofs.ranking.Ranking.made.Goals as goal

pub invariant_of-result : goal.invariant_of-result
invariant_of-result g c =
    ranked_by c.of-prios.result.items c.in_ok-order.order.items c.in_ok-ranks.ranks.items (omega (arith, ap length c.of-prios.ensures.items, c.requires.few)) c.in_ok-order.ensures c.in_ok-ranks.ensures.size c.in_ok-ranks.ensures.ranks

pub returns-clause-ranked : goal.returns-clause-ranked
returns-clause-ranked g c =
    ranked_by c.of-prios.result.items c.in_ok-order.order.items c.in_ok-ranks.ranks.items (omega (arith, ap length c.of-prios.ensures.items, c.requires.few)) c.in_ok-order.ensures c.in_ok-ranks.ensures.size c.in_ok-ranks.ensures.ranks
