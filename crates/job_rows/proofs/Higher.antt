-- The ranks of transactions, and the higher rows that a tick delays.
use Rattle.std.proofs.Common.{◌≡◌, ℕ, ◌<◌, ◌≤◌, Bool, cond, List, length, get_or, refl, ap, sym, ◌∙◌, inl, inr, arith}
use Rattle.std.proofs.lemmas.Bool.{cases_lt, cases_order, le-ltb, lt-ltb}
use Rattle.std.proofs.Math.ListN.{get_or-map}
use Rattle.inherit_prio.specs.Waits.{prio_of, tx_of}
use Rattle.inherit_prio.specs.Ranks.{Ranked, rank_of}
use Rattle.inherit_prio.proofs.Orders.{same_rank}
use Rattle.job_rows.specs.declared.row.Urgency.{Urgency}
use Rattle.job_rows.specs.Lists.{no_urgency}
use Rattle.job_rows.specs.Bounds.{AreRanks, end_of}

module _ (urgencies : List Urgency) (count : ℕ) (r : Ranked) (a : AreRanks urgencies count r) where
  -- the transaction with a rank is the one that has it
  pub tx_at : (n rank : ℕ) → n < count → rank_of r.ranks n ≡ rank → n ≡ tx_of r.order rank
  tx_at n rank lt e = sym (a.ranked.ranked n (omega (arith, lt, a.count))).1 ∙ ap (tx_of r.order) e

  pub same_tx : (n m : ℕ) → n < count → m < count → rank_of r.ranks n ≡ rank_of r.ranks m → n ≡ m
  same_tx n m ln lm e = tx_at n (rank_of r.ranks m) ln e ∙ sym (tx_at m (rank_of r.ranks m) lm refl)

  pub rank_is : (n rank : ℕ) → n < count → rank < count → n ≡ tx_of r.order rank → rank_of r.ranks n ≡ rank
  rank_is n rank ln lr e =
      let own = a.ranked.ranked n (omega (arith, ln, a.count)) in
      same_rank r.prios r.order (rank_of r.ranks n) rank a.ranked.order own.0 (omega (arith, lr, a.count)) (own.1 ∙ e)

  prio_is : (n : ℕ) → prio_of r.prios n ≡ (get_or urgencies n no_urgency).prio
  prio_is n = ap (λ (l : List ℕ). get_or l n 0) a.prios ∙ get_or-map (λ (u : Urgency). u.prio) urgencies n no_urgency

  not_above : (n tx : ℕ) → n < count → tx < count → rank_of r.ranks tx ≤ rank_of r.ranks n → (get_or urgencies n no_urgency).prio ≤ (get_or urgencies tx no_urgency).prio
  not_above n tx ln lt le =
      let of_n = a.ranked.ranked n (omega (arith, ln, a.count)) in
      let of_tx = a.ranked.ranked tx (omega (arith, lt, a.count)) in
      elim (cases_order (rank_of r.ranks n) (rank_of r.ranks tx)) [
        | inl e ↦ omega (arith, ap (λ (m : ℕ). (get_or urgencies m no_urgency).prio) (same_tx n tx ln lt e))
        | inr (inl less) ↦ absurd (omega (arith, less, le))
        | inr (inr more) ↦ omega (arith, a.ranked.order.falling (rank_of r.ranks tx) (rank_of r.ranks n) more of_n.0, ap (prio_of r.prios) of_n.1, ap (prio_of r.prios) of_tx.1, prio_is n, prio_is tx)
      ]

  -- from the end on no transaction is higher
  pub not_higher : (n tx : ℕ) → n < count → end_of r tx ≤ rank_of r.ranks n → (get_or urgencies n no_urgency).prio ≤ (get_or urgencies tx no_urgency).prio
  not_higher n tx ln le =
      let of_n = a.ranked.ranked n (omega (arith, ln, a.count)) in
      elim (cases_lt tx (length r.prios)) [
        | inl lt ↦ (
            let is : end_of r tx ≡ rank_of r.ranks tx = ap (λ (b : Bool). cond b (rank_of r.ranks tx) (length r.prios)) (lt-ltb _ _ lt) in
            not_above n tx ln (omega (arith, lt, a.count)) (omega (arith, le, is)))
        | inr ge ↦ (
            let is : end_of r tx ≡ length r.prios = ap (λ (b : Bool). cond b (rank_of r.ranks tx) (length r.prios)) (le-ltb _ _ ge) in
            absurd (omega (arith, le, is, of_n.0)))
      ]
