-- What one wait more or less leaves of the table, and the priority that is inherited.
use Rattle.std.proofs.Common.{◌≡◌, ℕ, zero, suc, ◌<◌, ◌≤◌, ◌==◌, max, Bool, true, false, not, ◌&&◌, ◌||◌, cond, List, length, get_or, set, replicate, Option, None, Some, refl, ap, sym, ◌∙◌, subst, inl, inr, arith}
use Rattle.std.proofs.Math.Nat.{le-max_left, le-max_right}
use Rattle.std.proofs.lemmas.Bool.{cases_eq, cases_lt, cases_order, eq-eqb, ne_eqb, or_left, and_left, not_from_true}
use Rattle.std.proofs.lemmas.List.{get_or-set_same, get_or-set_other, get_or_read, get_or-replicate, length-set, length-replicate}
use Rattle.rt_base.specs.declared.ids.TxId.{TxId}
use Rattle.rt_base.specs.declared.rank_set.RankSet.{RankSet}
use Rattle.rt_base.specs.Ranks.{has_rank, IsLeastRank}
use Rattle.inherit_prio.specs.Waits.{Waiting, prio_of, tx_of, on_of, is_tx, waits, highest_waiter, effective_of, IsOrder, no_ranks, ranks_at, IsShallow, AreWaiters, IsTable}
use Rattle.inherit_prio.specs.Ranks.{IsRanked}
use Rattle.inherit_prio.proofs.Orders.{same_rank}

abbrev pub table : List ℕ → List TxId → List (Option TxId) → Waiting
table prios order on = record { prios = prios; order = order; on = on }

-- ---- one transaction's wait changes

record OneWait (prios : List ℕ) (order : List TxId) (on : List (Option TxId)) (waiters : List RankSet) (tx u rank : ℕ) (now : RankSet) (o : Option TxId) (b : Bool) : Type 0 where
  order_is : IsOrder prios order
  size : length on ≡ length prios
  waiting : AreWaiters (table prios order on) waiters
  in_range : (tx < length prios) × (u < length prios)
  ranked : (rank < length prios) × (tx_of order rank ≡ tx)
  at_rank : has_rank now rank ≡ b
  others : (r : ℕ) → (r ≡ rank → ⊥) → has_rank now r ≡ has_rank (ranks_at waiters u) r
  to_u : is_tx o u ≡ b
  elsewhere : (t : ℕ) → (t ≡ u → ⊥) → is_tx o t ≡ is_tx (on_of on tx) t

on_same : (on : List (Option TxId)) (tx : ℕ) (o : Option TxId) → tx < length on → on_of (set on tx o) tx ≡ o
on_same on tx o lt = get_or-set_same on tx o None lt

on_other : (on : List (Option TxId)) (tx t : ℕ) (o : Option TxId) → (t ≡ tx → ⊥) → on_of (set on tx o) t ≡ on_of on t
on_other on tx t o ne = get_or-set_other on tx t o None ne

rewait_within : (prios : List ℕ) (order : List TxId) (on : List (Option TxId)) (waiters : List RankSet) (tx u rank : ℕ) (now : RankSet) (o : Option TxId) (b : Bool) → OneWait prios order on waiters tx u rank now o b → (t r : ℕ) → t < length prios → r < length prios
    → has_rank (ranks_at (set waiters u now) t) r ≡ waits (set on tx o) (tx_of order r) t
rewait_within prios order on waiters tx u rank now o b w t r lt lr =
    let in_on : tx < length on = omega (arith, w.in_range, w.size) in
    let in_waiters : u < length waiters = omega (arith, w.in_range, w.waiting.size) in
    elim (cases_eq t u) [
      | inl e ↦ (
          let left : has_rank (ranks_at (set waiters u now) t) r ≡ has_rank now r = ap (λ (k : ℕ). has_rank (ranks_at (set waiters u now) k) r) e ∙ ap (λ (s : RankSet). has_rank s r) (get_or-set_same waiters u now no_ranks in_waiters) in
          elim (cases_eq r rank) [
            | inl q ↦ (
                let who : tx_of order r ≡ tx = ap (tx_of order) q ∙ w.ranked.1 in
                let right : waits (set on tx o) (tx_of order r) t ≡ is_tx o u = ap (λ (k : ℕ). is_tx (on_of (set on tx o) k) t) who ∙ ap (λ (p : Option TxId). is_tx p t) (on_same on tx o in_on) ∙ ap (is_tx o) e in
                left ∙ ap (has_rank now) q ∙ w.at_rank ∙ sym (right ∙ w.to_u))
            | inr nq ↦ (
                let who : tx_of order r ≡ tx → ⊥ = (λ k. nq (same_rank prios order r rank w.order_is lr w.ranked.0 (k ∙ sym w.ranked.1))) in
                let right : waits (set on tx o) (tx_of order r) t ≡ waits on (tx_of order r) u = ap (λ (p : Option TxId). is_tx p t) (on_other on tx (tx_of order r) o who) ∙ ap (waits on (tx_of order r)) e in
                left ∙ w.others r nq ∙ w.waiting.within u r w.in_range.1 lr ∙ sym right)
          ])
      | inr ne ↦ (
          let left : has_rank (ranks_at (set waiters u now) t) r ≡ waits on (tx_of order r) t = ap (λ (s : RankSet). has_rank s r) (get_or-set_other waiters u t now no_ranks ne) ∙ w.waiting.within t r lt lr in
          elim (cases_eq (tx_of order r) tx) [
            | inl q ↦ (
                let right : waits (set on tx o) (tx_of order r) t ≡ is_tx o t = ap (λ (k : ℕ). is_tx (on_of (set on tx o) k) t) q ∙ ap (λ (p : Option TxId). is_tx p t) (on_same on tx o in_on) in
                left ∙ ap (λ (k : ℕ). waits on k t) q ∙ sym (right ∙ w.elsewhere t ne))
            | inr nq ↦ left ∙ sym (ap (λ (p : Option TxId). is_tx p t) (on_other on tx (tx_of order r) o nq))
          ])
    ]

rewait_beyond : (prios : List ℕ) (order : List TxId) (on : List (Option TxId)) (waiters : List RankSet) (tx u rank : ℕ) (now : RankSet) (o : Option TxId) (b : Bool) → OneWait prios order on waiters tx u rank now o b → (t r : ℕ) → t < length prios → length prios ≤ r → has_rank (ranks_at (set waiters u now) t) r ≡ false
rewait_beyond prios order on waiters tx u rank now o b w t r lt le =
    elim (cases_eq t u) [
      | inl e ↦ (
          let left : has_rank (ranks_at (set waiters u now) t) r ≡ has_rank now r = ap (λ (k : ℕ). has_rank (ranks_at (set waiters u now) k) r) e ∙ ap (λ (s : RankSet). has_rank s r) (get_or-set_same waiters u now no_ranks (omega (arith, w.in_range, w.waiting.size))) in
          left ∙ w.others r (λ (q : r ≡ rank). omega (arith, w.ranked)) ∙ w.waiting.beyond u r w.in_range.1 le)
      | inr ne ↦ ap (λ (s : RankSet). has_rank s r) (get_or-set_other waiters u t now no_ranks ne) ∙ w.waiting.beyond t r lt le
    ]

rewait : (prios : List ℕ) (order : List TxId) (on : List (Option TxId)) (waiters : List RankSet) (tx u rank : ℕ) (now : RankSet) (o : Option TxId) (b : Bool) → OneWait prios order on waiters tx u rank now o b → AreWaiters (table prios order (set on tx o)) (set waiters u now)
rewait prios order on waiters tx u rank now o b w = record {
  size = length-set waiters u now ∙ w.waiting.size;
  within = rewait_within prios order on waiters tx u rank now o b w;
  beyond = rewait_beyond prios order on waiters tx u rank now o b w;
}

rank_is : (prios : List ℕ) (order : List TxId) (on : List (Option TxId)) (ranks : List ℕ) (waiters : List RankSet) (tx rank : ℕ) → IsTable (table prios order on) ranks waiters → tx < length prios → rank ≡ get_or ranks tx 0 → (rank < length prios) × (tx_of order rank ≡ tx)
rank_is prios order on ranks waiters tx rank t lt e =
    let r : (get_or ranks tx 0 < length prios) × (tx_of order (get_or ranks tx 0) ≡ tx) = t.ranked tx lt in
    (omega (arith, e, r.0), ap (tx_of order) e ∙ r.1)

pub counted : (prios : List ℕ) (order : List TxId) (on : List (Option TxId)) (ranks : List ℕ) (waiters : List RankSet) (tx rank : ℕ) → IsTable (table prios order on) ranks waiters → tx < length prios → rank ≡ get_or ranks tx 0 → (rank < length prios) × (tx_of order rank ≡ tx)
counted = rank_is

shallow_more : (n : ℕ) (on : List (Option TxId)) (tx u : TxId) → length on ≡ n → tx.0 < n → u.0 < n → (tx.0 ≡ u.0 → ⊥) → on_of on u.0 ≡ None → ((t : ℕ) → on_of on t ≡ Some tx → ⊥) → IsShallow n on → IsShallow n (set on tx.0 (Some u))
shallow_more n on tx u size lt lu ne free no_waiter s =
    let here : on_of (set on tx.0 (Some u)) tx.0 ≡ Some u = on_same on tx.0 (Some u) (omega (arith, size)) in
    record {
      in_range = λ t v h.
          elim (cases_eq t tx.0) [
            | inl e ↦ (let same : u ≡ v = (let k : Some u ≡ Some v = sym here ∙ ap (on_of (set on tx.0 (Some u))) (sym e) ∙ h in cc) in omega (arith, ap (λ (x : TxId). x.0) same))
            | inr other ↦ s.in_range t v (sym (on_other on tx.0 t (Some u) other) ∙ h)
          ];
      ends = λ t v h.
          elim (cases_eq t tx.0) [
            | inl e ↦ (
                let same : u ≡ v = (let k : Some u ≡ Some v = sym here ∙ ap (on_of (set on tx.0 (Some u))) (sym e) ∙ h in cc) in
                ap (λ (x : TxId). on_of (set on tx.0 (Some u)) x.0) (sym same) ∙ on_other on tx.0 u.0 (Some u) (λ (q : u.0 ≡ tx.0). ne (sym q)) ∙ free)
            | inr other ↦ (
                let old : on_of on t ≡ Some v = sym (on_other on tx.0 t (Some u) other) ∙ h in
                let away : v.0 ≡ tx.0 → ⊥ = (λ q. let is : v ≡ tx = (let k : record { 0 = v.0 } ≡ record { 0 = tx.0 } = ap (λ (n : ℕ). record { 0 = n }) q in k) in no_waiter t (old ∙ ap Some is)) in
                on_other on tx.0 v.0 (Some u) away ∙ s.ends t v old)
          ];
    }

pub block_keeps : (prios : List ℕ) (order : List TxId) (on on' : List (Option TxId)) (ranks : List ℕ) (waiters waiters' : List RankSet) (tx u : TxId) (rank : ℕ) (was now : RankSet) → IsTable (table prios order on) ranks waiters → tx.0 < length prios → u.0 < length prios → (tx.0 ≡ u.0 → ⊥) → on_of on tx.0 ≡ None → on_of on u.0 ≡ None → ((t : ℕ) → on_of on t ≡ Some tx → ⊥)
    → rank ≡ get_or ranks tx.0 0 → was ≡ get_or waiters u.0 was → ((r : ℕ) → has_rank now r ≡ (r == rank || has_rank was r)) → on' ≡ set on tx.0 (Some u) → waiters' ≡ set waiters u.0 now → IsTable (table prios order on') ranks waiters'
block_keeps prios order on on' ranks waiters waiters' tx u rank was now t lt lu ne free u_free no_waiter re we has oe se =
    let ranked : (rank < length prios) × (tx_of order rank ≡ tx.0) = rank_is prios order on ranks waiters tx.0 rank t lt re in
    let there : was ≡ ranks_at waiters u.0 = get_or_read waiters u.0 was (omega (arith, t.waiting.size)) we no_ranks in
    let one : OneWait prios order on waiters tx.0 u.0 rank now (Some u) true = record {
      order_is = t.order;
      size = t.size;
      waiting = t.waiting;
      in_range = (lt, lu);
      ranked = ranked;
      at_rank = has rank ∙ or_left _ _ (eq-eqb rank rank refl);
      others = λ r nr. has r ∙ ap (λ (b : Bool). b || has_rank was r) (ne_eqb _ _ nr) ∙ ap (λ (s : RankSet). has_rank s r) there;
      to_u = eq-eqb u.0 u.0 refl;
      elsewhere = λ v nv. ne_eqb u.0 v (λ (q : u.0 ≡ v). nv (sym q)) ∙ sym (ap (λ (p : Option TxId). is_tx p v) free);
    } in
    subst (λ (o : List (Option TxId)). IsTable (table prios order o) ranks waiters') (sym oe)
    (subst (λ (s : List RankSet). IsTable (table prios order (set on tx.0 (Some u))) ranks s) (sym se)
    (record {
      few = t.few;
      order = t.order;
      size = length-set on tx.0 (Some u) ∙ t.size;
      ranks_size = t.ranks_size;
      ranked = t.ranked;
      waiting = rewait prios order on waiters tx.0 u.0 rank now (Some u) true one;
      shallow = shallow_more (length prios) on tx u t.size lt lu ne u_free no_waiter t.shallow;
    }))

-- ---- a wait less

shallow_less : (n : ℕ) (on on' : List (Option TxId)) → ((t : ℕ) (u : TxId) → on_of on' t ≡ Some u → on_of on t ≡ Some u) → ((t : ℕ) → on_of on t ≡ None → on_of on' t ≡ None) → IsShallow n on → IsShallow n on'
shallow_less n on on' back none s = record {
  in_range = λ t u h. s.in_range t u (back t u h);
  ends = λ t u h. none u.0 (s.ends t u (back t u h));
}

pub unblock_keeps : (prios : List ℕ) (order : List TxId) (on on' : List (Option TxId)) (ranks : List ℕ) (waiters waiters' : List RankSet) (tx u : TxId) (rank : ℕ) (was now : RankSet) → IsTable (table prios order on) ranks waiters → tx.0 < length prios → on_of on tx.0 ≡ Some u
    → rank ≡ get_or ranks tx.0 0 → was ≡ get_or waiters u.0 was → ((r : ℕ) → has_rank now r ≡ (not (r == rank) && has_rank was r)) → on' ≡ set on tx.0 None → waiters' ≡ set waiters u.0 now → IsTable (table prios order on') ranks waiters'
unblock_keeps prios order on on' ranks waiters waiters' tx u rank was now t lt waits_on_u re we has oe se =
    let ranked : (rank < length prios) × (tx_of order rank ≡ tx.0) = rank_is prios order on ranks waiters tx.0 rank t lt re in
    let lu : u.0 < length prios = t.shallow.in_range tx.0 u waits_on_u in
    let there : was ≡ ranks_at waiters u.0 = get_or_read waiters u.0 was (omega (arith, t.waiting.size)) we no_ranks in
    let one : OneWait prios order on waiters tx.0 u.0 rank now None false = record {
      order_is = t.order;
      size = t.size;
      waiting = t.waiting;
      in_range = (lt, lu);
      ranked = ranked;
      at_rank = has rank ∙ and_left _ _ (not_from_true _ (eq-eqb rank rank refl));
      others = λ r nr. has r ∙ ap (λ (b : Bool). not b && has_rank was r) (ne_eqb _ _ nr) ∙ ap (λ (s : RankSet). has_rank s r) there;
      to_u = refl;
      elsewhere = λ v nv. sym (ap (λ (p : Option TxId). is_tx p v) waits_on_u ∙ ne_eqb u.0 v (λ (q : u.0 ≡ v). nv (sym q)));
    } in
    let here : on_of (set on tx.0 None) tx.0 ≡ None = on_same on tx.0 None (omega (arith, t.size)) in
    let back : (v : ℕ) (w : TxId) → on_of (set on tx.0 None) v ≡ Some w → on_of on v ≡ Some w = (λ v w h.
    elim (cases_eq v tx.0) [
      | inl e ↦ absurd (let k : None ≡ Some w = sym here ∙ ap (on_of (set on tx.0 None)) (sym e) ∙ h in cc)
      | inr other ↦ sym (on_other on tx.0 v None other) ∙ h
    ]) in
    let none : (v : ℕ) → on_of on v ≡ None → on_of (set on tx.0 None) v ≡ None = (λ v h. elim (cases_eq v tx.0) [ inl e ↦ ap (on_of (set on tx.0 None)) e ∙ here | inr other ↦ on_other on tx.0 v None other ∙ h ]) in
    subst (λ (o : List (Option TxId)). IsTable (table prios order o) ranks waiters') (sym oe)
    (subst (λ (s : List RankSet). IsTable (table prios order (set on tx.0 None)) ranks s) (sym se)
    (record {
      few = t.few;
      order = t.order;
      size = length-set on tx.0 None ∙ t.size;
      ranks_size = t.ranks_size;
      ranked = t.ranked;
      waiting = rewait prios order on waiters tx.0 u.0 rank now None false one;
      shallow = shallow_less (length prios) on (set on tx.0 None) back none t.shallow;
    }))

-- ---- nobody waits

none_at : (n t : ℕ) → on_of (replicate n None) t ≡ None
none_at zero t = refl
none_at (suc n) zero = refl
none_at (suc n) (suc t) = none_at n t

pub nobody_waits : (n t : ℕ) (on : List (Option TxId)) → on ≡ replicate n None → on_of on t ≡ None
nobody_waits n t on e = ap (λ (o : List (Option TxId)). on_of o t) e ∙ none_at n t

pub new_keeps : (prios : List ℕ) (order : List TxId) (on : List (Option TxId)) (ranks : List ℕ) (waiters : List RankSet) (n : ℕ) (empty : RankSet) → IsRanked (record { prios = prios; order = order; ranks = ranks }) → n ≡ length prios → on ≡ replicate n None → waiters ≡ replicate n empty → ((r : ℕ) → has_rank empty r ≡ false)
    → IsTable (table prios order on) ranks waiters
new_keeps prios order on ranks waiters n empty h size oe we nobody =
    let nothing : (t r : ℕ) → t < length prios → has_rank (ranks_at waiters t) r ≡ false = (λ t r lt. ap (λ (s : List RankSet). has_rank (ranks_at s t) r) we ∙ ap (λ (s : RankSet). has_rank s r) (get_or-replicate n t empty no_ranks (omega arith)) ∙ nobody r) in
    record {
      few = h.few;
      order = h.order;
      size = ap length oe ∙ length-replicate n None ∙ size;
      ranks_size = h.size;
      ranked = h.ranked;
      waiting = record {
        size = ap length we ∙ length-replicate n empty ∙ size;
        within = λ t r lt lr. nothing t r lt ∙ sym (ap (λ (p : Option TxId). is_tx p t) (nobody_waits n (tx_of order r) on oe));
        beyond = λ t r lt le. nothing t r lt;
      };
      shallow = record {
        in_range = λ t u h. absurd (let k : None ≡ Some u = sym (nobody_waits n t on oe) ∙ h in cc);
        ends = λ t u h. absurd (let k : None ≡ Some u = sym (nobody_waits n t on oe) ∙ h in cc);
      };
    }

-- ---- the priority that is inherited

highest_none : (w : Waiting) (tx n : ℕ) → ((t : ℕ) → t < n → waits w.on t tx ≡ false) → highest_waiter w tx n ≡ 0
highest_none w tx zero h = refl
highest_none w tx (suc n) h =
    let first : cond (waits w.on n tx) (prio_of w.prios n) 0 ≡ 0 = ap (λ (b : Bool). cond b (prio_of w.prios n) 0) (h n (omega arith)) in
    let rest : highest_waiter w tx n ≡ 0 = highest_none w tx n (λ t lt. h t (omega arith)) in
    ap (λ (k : ℕ). max k (highest_waiter w tx n)) first ∙ ap (λ (k : ℕ). max 0 k) rest

highest_le_at : (w : Waiting) (tx n top : ℕ) (b : Bool) → waits w.on n tx ≡ b → (waits w.on n tx ≡ true → prio_of w.prios n ≤ top) → cond b (prio_of w.prios n) 0 ≤ top
highest_le_at w tx n top true e h = h e
highest_le_at w tx n top false e h = omega arith

highest_le : (w : Waiting) (tx n top : ℕ) → ((t : ℕ) → t < n → waits w.on t tx ≡ true → prio_of w.prios t ≤ top) → highest_waiter w tx n ≤ top
highest_le w tx zero top h = omega arith
highest_le w tx (suc n) top h = omega (arith, highest_le_at w tx n top (waits w.on n tx) refl (h n (omega arith)), highest_le w tx n top (λ t lt. h t (omega arith)))

highest_at : (w : Waiting) (tx n t : ℕ) → t < n → waits w.on t tx ≡ true → prio_of w.prios t ≤ highest_waiter w tx n
highest_at w tx zero t lt h = absurd (omega arith)
highest_at w tx (suc n) t lt h =
    elim (cases_eq t n) [
      | inl e ↦ (
          let there : cond (waits w.on n tx) (prio_of w.prios n) 0 ≡ prio_of w.prios n = ap (λ (b : Bool). cond b (prio_of w.prios n) 0) (ap (λ (k : ℕ). waits w.on k tx) (sym e) ∙ h) in
          omega (arith, there, ap (prio_of w.prios) e, le-max_left (cond (waits w.on n tx) (prio_of w.prios n) 0) (highest_waiter w tx n)))
      | inr ne ↦ omega (arith, highest_at w tx n t (omega arith) h, le-max_right (cond (waits w.on n tx) (prio_of w.prios n) 0) (highest_waiter w tx n))
    ]

pub rank_below : (prios : List ℕ) (order : List TxId) (on : List (Option TxId)) (ranks : List ℕ) (waiters : List RankSet) (tx rank : ℕ) (was : RankSet) → IsTable (table prios order on) ranks waiters → tx < length prios → was ≡ get_or waiters tx was → IsLeastRank was rank → (rank < length prios) × (tx_of order rank < length prios)
rank_below prios order on ranks waiters tx rank was t lt we least =
    let there : was ≡ ranks_at waiters tx = get_or_read waiters tx was (omega (arith, t.waiting.size)) we no_ranks in
    let within : rank < length prios =
    elim (cases_lt rank (length prios)) [
      | inl l ↦ l
      | inr ge ↦ absurd (let no_rank : has_rank was rank ≡ false = ap (λ (s : RankSet). has_rank s rank) there ∙ t.waiting.beyond tx rank lt ge in cc (no_rank, least.has))
    ] in
    (within, t.order.in_range rank within)

pub inherits : (prios : List ℕ) (order : List TxId) (on : List (Option TxId)) (ranks : List ℕ) (waiters : List RankSet) (tx rank own : ℕ) (was : RankSet) → IsTable (table prios order on) ranks waiters → tx < length prios → was ≡ get_or waiters tx was → own ≡ prio_of prios tx → IsLeastRank was rank
    → effective_of (table prios order on) tx ≡ max own (prio_of prios (tx_of order rank))
unfolding effective_of
inherits prios order on ranks waiters tx rank own was t lt we oe least =
    let there : was ≡ ranks_at waiters tx = get_or_read waiters tx was (omega (arith, t.waiting.size)) we no_ranks in
    let in_range : (rank < length prios) × (tx_of order rank < length prios) = rank_below prios order on ranks waiters tx rank was t lt we least in
    let has : (r : ℕ) → r < length prios → has_rank was r ≡ waits on (tx_of order r) tx = (λ r lr. ap (λ (s : RankSet). has_rank s r) there ∙ t.waiting.within tx r lt lr) in
    let above : (v : ℕ) → v < length prios → waits on v tx ≡ true → prio_of prios v ≤ prio_of prios (tx_of order rank) = (λ v lv h.
    (let k : (r : ℕ) × (r < length prios) × (tx_of order r ≡ v) = t.order.all v lv in
    let is : has_rank was k.0 ≡ true = has k.0 k.1 ∙ ap (λ (m : ℕ). waits on m tx) k.2 ∙ h in
    let same : prio_of prios v ≡ prio_of prios (tx_of order k.0) = ap (prio_of prios) (sym k.2) in
    elim (cases_order k.0 rank) [
      | inl e ↦ omega (arith, same, ap (λ (m : ℕ). prio_of prios (tx_of order m)) e)
      | inr (inl l) ↦ absurd (cc (is, least.least k.0 l))
      | inr (inr g) ↦ omega (arith, same, t.order.falling rank k.0 g k.1)
    ])) in
    let le : highest_waiter (table prios order on) tx (length prios) ≤ prio_of prios (tx_of order rank) = highest_le (table prios order on) tx (length prios) (prio_of prios (tx_of order rank)) above in
    let ge : prio_of prios (tx_of order rank) ≤ highest_waiter (table prios order on) tx (length prios) = highest_at (table prios order on) tx (length prios) (tx_of order rank) in_range.1 (sym (has rank in_range.0) ∙ least.has) in
    let is : highest_waiter (table prios order on) tx (length prios) ≡ prio_of prios (tx_of order rank) = omega arith in
    ap (λ (k : ℕ). max (prio_of prios tx) k) is ∙ ap (λ (k : ℕ). max k (prio_of prios (tx_of order rank))) (sym oe)

pub inherits_nothing : (prios : List ℕ) (order : List TxId) (on : List (Option TxId)) (ranks : List ℕ) (waiters : List RankSet) (tx own : ℕ) (was : RankSet) → IsTable (table prios order on) ranks waiters → tx < length prios → was ≡ get_or waiters tx was → own ≡ prio_of prios tx → ((r : ℕ) → has_rank was r ≡ false) → own ≡ effective_of (table prios order on) tx
unfolding effective_of
inherits_nothing prios order on ranks waiters tx own was t lt we oe nobody =
    let there : was ≡ ranks_at waiters tx = get_or_read waiters tx was (omega (arith, t.waiting.size)) we no_ranks in
    let none : highest_waiter (table prios order on) tx (length prios) ≡ 0 = highest_none (table prios order on) tx (length prios) (λ v lv.
    (let k : (r : ℕ) × (r < length prios) × (tx_of order r ≡ v) = t.order.all v lv in
    ap (λ (m : ℕ). waits on m tx) (sym k.2) ∙ sym (t.waiting.within tx k.0 lt k.1) ∙ ap (λ (s : RankSet). has_rank s k.0) (sym there) ∙ nobody k.0)) in
    omega (arith, none, oe)
