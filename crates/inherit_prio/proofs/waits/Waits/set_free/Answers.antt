use Rattle.std.proofs.Common.{◌<◌, ◌∙◌, sym, subst, length, None, arith}
use Rattle.std.proofs.lemmas.List.{get_or_read}
use Rattle.inherit_prio.specs.Waits.{Waiting}
use Rattle.inherit_prio.proofs.Ranks.{ranks_on}
use Rattle.inherit_prio.proofs.Table.{unblock_keeps}
use Rattle.inherit_prio.proofs.waits.Waits.set_free.Goals as goal

pub invariant_of-self : goal.invariant_of-self
invariant_of-self g c =
    let within = (subst (λ (w : Waiting). c.args.on.0 < length w.prios) (sym c.self.view_is) c.requires.tx) in
    unblock_keeps _ _ c.self.inside.on.items _ _ c.self.inside.waiters.items _ c.args.on c.in-Some.other c.rank-rank.result c.at-waiters.result c.without.result c.self.invariant
    within (sym (get_or_read c.self.inside.on.items c.args.on.0 c.at.result (omega (arith, within, c.self.invariant.size)) c.at.ensures.value None) ∙ c.in-Some.is)
    c.rank-rank.ensures.rank c.at-waiters.ensures.value c.without.ensures c.set-in-Some.ensures.items c.set.ensures.items

pub stop_waiting-requires-clause-waiters : goal.stop_waiting-requires-clause-waiters
stop_waiting-requires-clause-waiters g c =
    ranks_on c.self.inside.ranking.prios _ _ _ _ _ _ c.self.invariant (subst (λ (w : Waiting). c.args.on.0 < length w.prios) (sym c.self.view_is) c.requires.tx) c.at-waiters-in_default.ensures.value
