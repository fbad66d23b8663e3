use Rattle.std.proofs.Common.{◌≡◌, ◌∙◌, ◌<◌, ap, sym, subst, length, max, ℕ, arith}
use Rattle.inherit_prio.specs.Waits.{Waiting, prio_of, tx_of}
use Rattle.inherit_prio.proofs.Table.{inherits, inherits_nothing, rank_below}
use Rattle.inherit_prio.proofs.waits.Waits.effective.Goals as goal

pub returns-in_default-clause-greatest : goal.returns-in_default-clause-greatest
returns-in_default-clause-greatest g c =
    rw (← c.self.view_is) (inherits_nothing _ _ _ _ _ c.args.tx.0 c.prio-own.result c.at-waiters.result c.self.invariant (subst (λ (w : Waiting). c.args.tx.0 < length w.prios) (sym c.self.view_is) c.requires) c.at-waiters.ensures.value c.prio-own.ensures.prio c.in_default.ensures.least)

pub tx-waiter-requires : goal.tx-waiter-requires
tx-waiter-requires g c =
    (rank_below _ _ _ _ _ c.args.tx.0 c.in-Some.rank c.at-waiters.result c.self.invariant (subst (λ (w : Waiting). c.args.tx.0 < length w.prios) (sym c.self.view_is) c.requires) c.at-waiters.ensures.value c.in-Some.ensures.least).0

pub prio-requires : goal.prio-requires
prio-requires g c =
    let low = rank_below _ _ _ _ _ c.args.tx.0 c.in-Some.rank c.at-waiters.result c.self.invariant (subst (λ (w : Waiting). c.args.tx.0 < length w.prios) (sym c.self.view_is) c.requires) c.at-waiters.ensures.value c.in-Some.ensures.least in
    omega (arith, c.tx-waiter.ensures.tx, low.1)

pub returns-clause-greatest : goal.returns-clause-greatest
returns-clause-greatest g c =
    let top : c.prio.result ≡ prio_of c.self.inside.ranking.prios (tx_of c.self.inside.ranking.order c.in-Some.rank) = c.prio.ensures.prio ∙ ap (prio_of c.self.inside.ranking.prios) c.tx-waiter.ensures.tx in
    rw (← c.self.view_is)
    (c.max.ensures ∙ ap (λ (n : ℕ). max c.prio-own.result n) top ∙ sym (inherits _ _ _ _ _ c.args.tx.0 c.in-Some.rank c.prio-own.result c.at-waiters.result c.self.invariant (subst (λ (w : Waiting). c.args.tx.0 < length w.prios) (sym c.self.view_is) c.requires) c.at-waiters.ensures.value c.prio-own.ensures.prio c.in-Some.ensures.least))
