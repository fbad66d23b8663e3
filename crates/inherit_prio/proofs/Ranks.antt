-- What is left of the waits when the waiters are gone over.
use Rattle.std.proofs.Common.{◌≡◌, ℕ, ◌<◌, Bool, true, false, cond, List, length, get_or, set, Option, None, Some, refl, ap, sym, ◌∙◌, inl, inr, arith}
use Rattle.std.proofs.lemmas.Bool.{cases_eq, cases_lt}
use Rattle.std.proofs.lemmas.List.{get_or-set_same, get_or-set_other, get_or_read, get_or_past}
use Rattle.rt_base.specs.declared.ids.TxId.{TxId}
use Rattle.rt_base.specs.declared.rank_set.RankSet.{RankSet}
use Rattle.rt_base.specs.Ranks.{has_rank, IsLeastRank}
use Rattle.rt_base.proofs.Ranks.{Without, without_this, without_other}
use Rattle.inherit_prio.specs.Waits.{tx_of, on_of, is_tx, unless_on, no_ranks, ranks_at, IsOrder, IsTable, IsRanking, AreRanksOn}
use Rattle.inherit_prio.proofs.Orders.{same_rank}

-- ---- one waiter stops waiting

pub least_within : (on : List (Option TxId)) (order : List TxId) (tx rank : ℕ) (left : RankSet) → AreRanksOn on order tx left → IsLeastRank left rank → rank < length order
least_within on order tx rank left a least =
    elim (cases_lt rank (length order)) [
      | inl lt ↦ lt
      | inr ge ↦ absurd (let no : has_rank left rank ≡ false = a.beyond rank ge in cc (no, least.has))
    ]

pub waiter_below : (on : List (Option TxId)) (order : List TxId) (tx rank : ℕ) (left : RankSet) (waiter : TxId) → IsRanking order → AreRanksOn on order tx left → IsLeastRank left rank → waiter.0 ≡ tx_of order rank → (waiter.0 < length order) × (waiter.0 ≡ tx_of order rank)
waiter_below on order tx rank left waiter o a least e =
    let lt : rank < length order = least_within on order tx rank left a least in
    (omega (arith, e, o.in_range rank lt), e)

pub ranks_step : (on : List (Option TxId)) (order : List TxId) (tx rank : ℕ) (left left' : RankSet) (waiter : TxId) → length on ≡ length order → IsRanking order → AreRanksOn on order tx left → IsLeastRank left rank → waiter.0 ≡ tx_of order rank → Without left left' rank → AreRanksOn (set on waiter.0 None) order tx left'
ranks_step on order tx rank left left' waiter size o a least e w =
    let lt : rank < length order = least_within on order tx rank left a least in
    let is : (waiter.0 < length order) × (waiter.0 ≡ tx_of order rank) = waiter_below on order tx rank left waiter o a least e in
    record {
      within = λ r lr.
          elim (cases_eq r rank) [
            | inl q ↦ (
                let who : tx_of order r ≡ waiter.0 = ap (tx_of order) q ∙ sym is.1 in
                let none : on_of (set on waiter.0 None) (tx_of order r) ≡ None = ap (on_of (set on waiter.0 None)) who ∙ get_or-set_same on waiter.0 None None (omega (arith, size, is.0)) in
                ap (has_rank left') q ∙ without_this left left' rank w ∙ sym (ap (λ (p : Option TxId). is_tx p tx) none))
            | inr nq ↦ (
                let away : tx_of order r ≡ waiter.0 → ⊥ = (λ k. nq (o.one_rank r rank lr lt (k ∙ is.1))) in
                without_other left left' rank r w nq ∙ a.within r lr ∙ sym (ap (λ (p : Option TxId). is_tx p tx) (get_or-set_other on waiter.0 (tx_of order r) None None away)))
          ];
      beyond = λ r ge. without_other left left' rank r w (λ (q : r ≡ rank). omega arith) ∙ a.beyond r ge;
    }

unless_is : (tx : ℕ) (o : Option TxId) → is_tx o tx ≡ true → unless_on tx o ≡ None
unless_is tx None h = refl
unless_is tx (Some v) h = ap (λ (b : Bool). cond b None (Some v)) h

unless_not : (tx : ℕ) (o : Option TxId) → is_tx o tx ≡ false → unless_on tx o ≡ o
unless_not tx None h = refl
unless_not tx (Some v) h = ap (λ (b : Bool). cond b None (Some v)) h

-- what remains of a wait once those on tx are gone is not changed by a waiter that stops
pub remains_step : (on : List (Option TxId)) (order : List TxId) (tx rank : ℕ) (left : RankSet) (waiter : TxId) → length on ≡ length order → IsRanking order → AreRanksOn on order tx left → IsLeastRank left rank → waiter.0 ≡ tx_of order rank → (t : ℕ) → unless_on tx (on_of (set on waiter.0 None) t) ≡ unless_on tx (on_of on t)
remains_step on order tx rank left waiter size o a least e t =
    let lt : rank < length order = least_within on order tx rank left a least in
    let is : (waiter.0 < length order) × (waiter.0 ≡ tx_of order rank) = waiter_below on order tx rank left waiter o a least e in
    elim (cases_eq t waiter.0) [
      | inl q ↦ (
          let none : on_of (set on waiter.0 None) t ≡ None = ap (on_of (set on waiter.0 None)) q ∙ get_or-set_same on waiter.0 None None (omega (arith, size, is.0)) in
          let waited : is_tx (on_of on t) tx ≡ true = ap (λ (k : ℕ). is_tx (on_of on k) tx) (q ∙ is.1) ∙ sym (a.within rank lt) ∙ least.has in
          ap (unless_on tx) none ∙ sym (unless_is tx (on_of on t) waited))
      | inr nq ↦ ap (unless_on tx) (get_or-set_other on waiter.0 t None None nq)
    ]

-- with no waiter left, what remains is all
pub remains_all : (on : List (Option TxId)) (order : List TxId) (tx : ℕ) (left : RankSet) → length on ≡ length order → IsRanking order → AreRanksOn on order tx left → ((r : ℕ) → has_rank left r ≡ false) → (t : ℕ) → unless_on tx (on_of on t) ≡ on_of on t
remains_all on order tx left size o a nobody t =
    elim (cases_lt t (length order)) [
      | inl lt ↦ (
          let k : (rank : ℕ) × (rank < length order) × (tx_of order rank ≡ t) = o.all t lt in
          unless_not tx (on_of on t) (ap (λ (m : ℕ). is_tx (on_of on m) tx) (sym k.2) ∙ sym (a.within k.0 k.1) ∙ nobody k.0))
      | inr ge ↦ (let none : on_of on t ≡ None = get_or_past on t None (omega (arith, size)) in ap (unless_on tx) none ∙ sym none)
    ]

-- ---- of a table

pub ranking_of : (prios : List ℕ) (order : List TxId) → IsOrder prios order → IsRanking order
ranking_of prios order o = record {
  in_range = λ r lt. (let near : tx_of order r < length prios = o.in_range r (omega (arith, o.size)) in omega (arith, o.size));
  one_rank = λ i j li lj e. same_rank prios order i j o (omega (arith, o.size)) (omega (arith, o.size)) e;
  all = λ t lt. (let k : (rank : ℕ) × (rank < length prios) × (tx_of order rank ≡ t) = o.all t (omega (arith, o.size)) in (k.0, omega (arith, k.1, o.size), k.2));
}

pub ranks_on : (prios : List ℕ) (order : List TxId) (on : List (Option TxId)) (ranks : List ℕ) (waiters : List RankSet) (tx : ℕ) (was : RankSet) → IsTable (record { prios = prios; order = order; on = on }) ranks waiters → tx < length prios → was ≡ get_or waiters tx was → AreRanksOn on order tx was
ranks_on prios order on ranks waiters tx was t lt e =
    let there : was ≡ ranks_at waiters tx = get_or_read waiters tx was (omega (arith, t.waiting.size)) e no_ranks in
    record {
      within = λ r lr. ap (λ (s : RankSet). has_rank s r) there ∙ t.waiting.within tx r lt (omega (arith, t.order.size));
      beyond = λ r ge. ap (λ (s : RankSet). has_rank s r) there ∙ t.waiting.beyond tx r lt (omega (arith, t.order.size));
    }
