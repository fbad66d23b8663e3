-- The loops over the pending ranks: a rank is taken, and what holds of those that were passed.
use Rattle.std.proofs.Common.{◌≡◌, ℕ, ◌+◌, ◌<◌, ◌≤◌, true, false, List, length, Option, None, Some, get_or, refl, ap, sym, ◌∙◌, subst, inl, inr, arith}
use Rattle.std.proofs.lemmas.Bool.{cases_eq, cases_lt}
use Rattle.std.specs.Prelude.{MatchOption}
use Rattle.rt_base.specs.declared.ids.TxId.{TxId}
use Rattle.rt_base.specs.declared.rank_set.RankSet.{RankSet}
use Rattle.rt_base.specs.Ranks.{has_rank, IsLeastRank}
use Rattle.inherit_prio.specs.Waits.{tx_of}
use Rattle.core_tables.specs.declared.head.Head.{Head}
use Rattle.core_tables.specs.PendingTables.{head_at, head_with, head_deadline, AreHeadRanks, HasDeadline, NotDue, IsFirstDue, IsLeastOutside, IsLeastPassed, IsLeastOfHeads, earlier_of}
use Rattle.rt_base.proofs.Ranks.{Without, without_this, without_other}

-- a rank that is left is one of the pending ones, below their number
pub rank_low : (heads : List (Option Head)) (order : List TxId) (ranks : RankSet) (rank : ℕ) → AreHeadRanks heads order ranks → has_rank ranks rank ≡ true → rank < length heads
rank_low heads order ranks rank a h =
    elim (cases_lt rank (length heads)) [ inl lt ↦ lt | inr ge ↦ absurd (let no : has_rank ranks rank ≡ false = a.beyond rank ge in cc (no, h)) ]

-- what is there of a rank that is not left was passed; the one taken, or one passed before
out_of : (left left' : RankSet) (rank other : ℕ) → Without left left' rank → has_rank left' other ≡ false → (other ≡ rank → ⊥) → has_rank left other ≡ false
out_of left left' rank other w h ne = sym (without_other left left' rank other w ne) ∙ h

pub still_left : (left left' ranks : RankSet) (rank other : ℕ) → Without left left' rank → ((r : ℕ) → has_rank left r ≡ true → has_rank ranks r ≡ true) → has_rank left' other ≡ true → has_rank ranks other ≡ true
still_left left left' ranks rank other w all h =
    elim (cases_eq other rank) [
      | inl e ↦ absurd (let no : has_rank left' other ≡ false = ap (has_rank left') e ∙ without_this left left' rank w in cc (no, h))
      | inr ne ↦ all other (sym (without_other left left' rank other w ne) ∙ h)
    ]

-- the job found is the first
pub first_found : (heads : List (Option Head)) (deadlines : List ℕ) (order : List TxId) (left : RankSet) (tick rank : ℕ) (head : Head) → IsLeastRank left rank → HasDeadline heads deadlines order rank head tick
    → ((r : ℕ) → has_rank left r ≡ false → NotDue heads deadlines order tick r) → IsFirstDue heads deadlines order tick head.job
first_found heads deadlines order left tick rank head least at before = record {
  rank = rank;
  head = head;
  at = at;
  is = refl;
  first = λ other lt. before other (least.least other lt);
}

-- the least deadline

pub least_none : (heads : List (Option Head)) (deadlines : List ℕ) (order : List TxId) (left left' : RankSet) (rank : ℕ) (least : Option ℕ) → Without left left' rank → head_with heads order rank ≡ None
    → IsLeastPassed heads deadlines order left least → IsLeastPassed heads deadlines order left' least
least_none heads deadlines order left left' rank None w here before = λ r lt h.
    elim (cases_eq r rank) [ inl e ↦ ap (head_with heads order) e ∙ here | inr ne ↦ before r lt (out_of left left' rank r w h ne) ]
least_none heads deadlines order left left' rank (Some m) w here before = record {
  rank = before.rank;
  head = before.head;
  at = before.at;
  least = λ other h t out d.
      elim (cases_eq other rank) [
        | inl e ↦ absurd (let none : head_with heads order other ≡ None = ap (head_with heads order) e ∙ here in let some = d.here in cc (none, some))
        | inr ne ↦ before.least other h t (out_of left left' rank other w out ne) d
      ];
}

same_head : (heads : List (Option Head)) (deadlines : List ℕ) (order : List TxId) (rank other : ℕ) (a b : Head) (t u : ℕ) → HasDeadline heads deadlines order rank a t → HasDeadline heads deadlines order other b u → other ≡ rank → t ≡ u
same_head heads deadlines order rank other a b t u x y e =
    let one : Some b ≡ Some a = sym y.here ∙ (ap (head_with heads order) e ∙ x.here) in
    let same : b ≡ a = cc in
    let at : head_deadline deadlines (tx_of order other) b ≡ head_deadline deadlines (tx_of order rank) a = ap (λ (r : ℕ). head_deadline deadlines (tx_of order r) b) e ∙ ap (head_deadline deadlines (tx_of order rank)) same in
    omega (arith, x.is, y.is, at)

pub least_some : (heads : List (Option Head)) (deadlines : List ℕ) (order : List TxId) (left left' : RankSet) (rank tick : ℕ) (head : Head) (least : Option ℕ) → Without left left' rank → HasDeadline heads deadlines order rank head tick
    → IsLeastPassed heads deadlines order left least → IsLeastOutside heads deadlines order left' (earlier_of tick least)
least_some heads deadlines order left left' rank tick head None w at before = record {
  rank = rank;
  head = head;
  at = at;
  least = λ other h t out d.
      elim (cases_eq other rank) [
        | inl e ↦ omega (arith, same_head heads deadlines order rank other head h tick t at d e)
        | inr ne ↦ absurd (let none = before other d.within (out_of left left' rank other w out ne) in let some = d.here in cc (none, some))
      ];
}
least_some heads deadlines order left left' rank tick head (Some m) w at before =
    elim (cases_lt m tick) [
      | inl lt ↦ (
          let q : m ≡ earlier_of tick (Some m) = omega arith in
          record {
            rank = before.rank;
            head = before.head;
            at = subst (HasDeadline heads deadlines order before.rank before.head) q before.at;
            least = λ other h t out d. from other h t out d;
          })
      | inr ge ↦ (
          let q : tick ≡ earlier_of tick (Some m) = omega arith in
          record {
            rank = rank;
            head = head;
            at = subst (HasDeadline heads deadlines order rank head) q at;
            least = λ other h t out d. from other h t out d;
          })
    ] where
      from : (other : ℕ) (h : Head) (t : ℕ) → has_rank left' other ≡ false → HasDeadline heads deadlines order other h t → earlier_of tick (Some m) ≤ t
      from other h t out d =
          elim (cases_eq other rank) [
            | inl e ↦ omega (arith, same_head heads deadlines order rank other head h tick t at d e)
            | inr ne ↦ (let le : m ≤ t = before.least other h t (out_of left left' rank other w out ne) d in omega (arith, le))
          ]

-- with no rank left, all were passed
pub least_all : (heads : List (Option Head)) (deadlines : List ℕ) (order : List TxId) (left : RankSet) (least : Option ℕ) → ((r : ℕ) → has_rank left r ≡ false) → IsLeastPassed heads deadlines order left least
    → MatchOption least ((rank : ℕ) → rank < length heads → head_with heads order rank ≡ None) (IsLeastOfHeads heads deadlines order)
least_all heads deadlines order left None none h = λ rank lt. h rank lt (none rank)
least_all heads deadlines order left (Some m) none h = record { rank = h.rank; head = h.head; at = h.at; least = λ other x t d. h.least other x t (none other) d }

-- what was read of a rank
pub taken : (heads : List (Option Head)) (deadlines : List ℕ) (order : List TxId) (rank tx : ℕ) (head : Head) → rank < length heads → tx ≡ tx_of order rank → head_at heads tx ≡ Some head
    → HasDeadline heads deadlines order rank head (head.release + get_or deadlines tx 0)
taken heads deadlines order rank tx head low is here = record {
  within = low;
  here = ap (head_at heads) (sym is) ∙ here;
  is = ap (λ (n : ℕ). head.release + get_or deadlines n 0) (sym is);
}

pub not_there : (heads : List (Option Head)) (order : List TxId) (rank tx : ℕ) → tx ≡ tx_of order rank → ((x : Head) → head_at heads tx ≡ Some x → ⊥) → head_with heads order rank ≡ None
not_there heads order rank tx is none = ap (head_at heads) (sym is) ∙ at (head_at heads tx) refl where
  at : (o : Option Head) → head_at heads tx ≡ o → o ≡ None
  at None e = refl
  at (Some x) e = absurd (none x e)
