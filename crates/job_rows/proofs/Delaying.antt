-- The rows that a tick delays, rank by rank.
use Rattle.std.proofs.Common.{◌≡◌, ◌≢◌, ℕ, ◌<◌, ◌≤◌, ◌^◌, Bool, true, false, List, length, map, get_or, set, Option, None, Some, refl, ap, sym, ◌∙◌, subst, inl, inr, arith}
use Rattle.std.specs.Option.{option_map}
use Rattle.std.proofs.lemmas.Bool.{cases_eq, cases_lt}
use Rattle.std.proofs.lemmas.List.{get_or-set_same, get_or-set_other, get_or_past, length-set}
use Rattle.rt_base.specs.declared.ids.JobId.{JobId}
use Rattle.rt_base.specs.declared.rank_set.RankSet.{RankSet}
use Rattle.rt_base.specs.Ranks.{has_rank, IsLeastRank}
use Rattle.inherit_prio.specs.Waits.{tx_of}
use Rattle.inherit_prio.specs.Ranks.{Ranked, rank_of}
use Rattle.job_rows.specs.declared.row.JobRow.{JobRow}
use Rattle.job_rows.specs.declared.row.Urgency.{Urgency}
use Rattle.job_rows.specs.Lists.{no_urgency, prio_in, delayed}
use Rattle.job_rows.specs.Bounds.{AreHeld, AreRanks, end_of}
use Rattle.rt_base.proofs.Ranks.{Without, without_this, without_other, without_has}
use Rattle.job_rows.proofs.Bounding.{clash, each_mapped, not_delayed}
use Rattle.job_rows.proofs.Higher.{tx_at, rank_is, not_higher}

-- the rows whose ranks are left are as they were, and the others are done
pub record AreDone (f : JobRow → JobRow) (rows new : List (Option JobRow)) (ranks : List ℕ) (left : RankSet) : Type 0 where
  pub size : length new ≡ length rows
  pub within : (rank : ℕ) → has_rank left rank ≡ true → rank < length rows
  pub rest : (n : ℕ) → n < length rows → has_rank left (rank_of ranks n) ≡ true → get_or new n None ≡ get_or rows n None
  pub done : (n : ℕ) → n < length rows → has_rank left (rank_of ranks n) ≡ false → get_or new n None ≡ option_map f (get_or rows n None)

no_row : (f : JobRow → JobRow) (o : Option JobRow) → ((row : JobRow) → o ≡ Some row → ⊥) → o ≡ option_map f o
no_row f None h = refl
no_row f (Some row) h = absurd (h row refl)

pub none_done : (f : JobRow → JobRow) (rows : List (Option JobRow)) (ranks : List ℕ) (held : RankSet) → AreHeld rows ranks held → AreDone f rows rows ranks held
none_done f rows ranks held a = record {
  size = refl;
  within = a.within;
  rest = λ n lt h. refl;
  done = λ n lt out. no_row f (get_or rows n None) (λ row here. clash (has_rank held (rank_of ranks n)) (a.held n row here) out);
}

pub done_more : (f : JobRow → JobRow) (urgencies : List Urgency) (rows new after : List (Option JobRow)) (r : Ranked) (s t : RankSet) (k rank : ℕ) → AreRanks urgencies (length rows) r → has_rank s rank ≡ true → k ≡ tx_of r.order rank → Without s t rank
    → after ≡ set new k (option_map f (get_or new k None)) → AreDone f rows new r.ranks s → AreDone f rows after r.ranks t
done_more f urgencies rows new after r s t k rank a has is w e d =
    let lr : rank < length rows = d.within rank has in
    let one : Option JobRow = option_map f (get_or new k None) in
    let other : (n : ℕ) → n < length rows → rank_of r.ranks n ≢ rank → get_or after n None ≡ get_or new n None = λ n lt ne.
    ap (λ (l : List (Option JobRow)). get_or l n None) e
    ∙ get_or-set_other new k n one None (λ (q : n ≡ k). ne (rank_is urgencies (length rows) r a n rank lt lr (q ∙ is))) in
    record {
      size = ap (λ (l : List (Option JobRow)). length l) e ∙ (length-set new k one ∙ d.size);
      within = λ m h. d.within m (without_has s t rank m w h);
      rest = λ n lt h. elim (cases_eq (rank_of r.ranks n) rank) [
        | inl q ↦ absurd (clash (has_rank t rank) (ap (has_rank t) (sym q) ∙ h) (without_this s t rank w))
        | inr ne ↦ other n lt ne ∙ d.rest n lt (sym (without_other s t rank (rank_of r.ranks n) w ne) ∙ h)
      ];
      done = λ n lt h. elim (cases_eq (rank_of r.ranks n) rank) [
        | inl q ↦ (
            let own : n ≡ k = tx_at urgencies (length rows) r a n rank lt q ∙ sym is in
            let was : get_or new k None ≡ get_or rows k None = subst (λ (m : ℕ). get_or new m None ≡ get_or rows m None) own (d.rest n lt (ap (has_rank s) q ∙ has)) in
            ap (λ (m : ℕ). get_or after m None) own
            ∙ (ap (λ (l : List (Option JobRow)). get_or l k None) e
            ∙ (get_or-set_same new k one None (omega (arith, lt, own, d.size))
            ∙ (ap (option_map f) was ∙ ap (λ (m : ℕ). option_map f (get_or rows m None)) (sym own)))))
        | inr ne ↦ other n lt ne ∙ d.done n lt (sym (without_other s t rank (rank_of r.ranks n) w ne) ∙ h)
      ];
    }

-- what is left is small where all were
pub rest_small : (f : JobRow → JobRow) (urgencies : List Urgency) (rows new : List (Option JobRow)) (r : Ranked) (s : RankSet) (k rank : ℕ) → AreRanks urgencies (length rows) r → has_rank s rank ≡ true → k ≡ tx_of r.order rank
    → AreDone f rows new r.ranks s → ((n : ℕ) (row : JobRow) → get_or rows n None ≡ Some row → row.delay < 2 ^ 63) → (row : JobRow) → get_or new k None ≡ Some row → row.delay < 2 ^ 63
rest_small f urgencies rows new r s k rank a has is d small row here =
    let lr : rank < length rows = d.within rank has in
    let lk : k < length rows = omega (arith, is, a.ranked.order.in_range rank (omega (arith, lr, a.count)), a.count) in
    small k row (sym (d.rest k lk (ap (has_rank s) (rank_is urgencies (length rows) r a k rank lk lr is) ∙ has)) ∙ here)

same_row : (urgencies : List Urgency) (by : JobId) (o : Option JobRow) → ((row : JobRow) → o ≡ Some row → prio_in urgencies row.job ≤ prio_in urgencies by) → o ≡ option_map (delayed urgencies by) o
same_row urgencies by None h = refl
same_row urgencies by (Some row) h = ap Some (sym (not_delayed urgencies by row (h row refl)))

done_at : (urgencies : List Urgency) (by : JobId) (rows new : List (Option JobRow)) (ranks : List ℕ) (left : RankSet) (n : ℕ) (b : Bool) → n < length rows → has_rank left (rank_of ranks n) ≡ b
    → AreDone (delayed urgencies by) rows new ranks left → ((row : JobRow) → has_rank left (rank_of ranks n) ≡ true → get_or rows n None ≡ Some row → prio_in urgencies row.job ≤ prio_in urgencies by)
    → get_or new n None ≡ option_map (delayed urgencies by) (get_or rows n None)
done_at urgencies by rows new ranks left n true lt e d low = d.rest n lt e ∙ same_row urgencies by (get_or rows n None) (λ row here. low row e here)
done_at urgencies by rows new ranks left n false lt e d low = d.done n lt e

-- where no row whose rank is left is higher, all are done
pub all_done : (urgencies : List Urgency) (by : JobId) (rows new : List (Option JobRow)) (ranks : List ℕ) (left : RankSet) → AreDone (delayed urgencies by) rows new ranks left
    → ((n : ℕ) (row : JobRow) → n < length rows → has_rank left (rank_of ranks n) ≡ true → get_or rows n None ≡ Some row → prio_in urgencies row.job ≤ prio_in urgencies by)
    → new ≡ map (option_map (delayed urgencies by)) rows
all_done urgencies by rows new ranks left d low =
    each_mapped (delayed urgencies by) new rows d.size
    (λ n. elim (cases_lt n (length rows)) [
      | inl lt ↦ done_at urgencies by rows new ranks left n (has_rank left (rank_of ranks n)) lt refl d (λ row h here. low n row lt h here)
      | inr ge ↦ get_or_past new n None (omega (arith, ge, d.size)) ∙ ap (option_map (delayed urgencies by)) (sym (get_or_past rows n None ge))
    ])

-- the least rank that is left is past those of the higher transactions
pub none_left : (urgencies : List Urgency) (by : JobId) (rows : List (Option JobRow)) (r : Ranked) (held left : RankSet) (rank : ℕ) → AreRanks urgencies (length rows) r → AreHeld rows r.ranks held → end_of r by.tx.0 ≤ rank → IsLeastRank left rank
    → (n : ℕ) (row : JobRow) → n < length rows → has_rank left (rank_of r.ranks n) ≡ true → get_or rows n None ≡ Some row → prio_in urgencies row.job ≤ prio_in urgencies by
none_left urgencies by rows r held left rank a own le least n row lt has here =
    let past : rank ≤ rank_of r.ranks n = elim (cases_lt (rank_of r.ranks n) rank) [
      | inl less ↦ absurd (clash (has_rank left (rank_of r.ranks n)) has (least.least (rank_of r.ranks n) less))
      | inr ge ↦ ge
    ] in
    omega (arith, not_higher urgencies (length rows) r a n by.tx.0 lt (omega (arith, le, past)), ap (λ (m : ℕ). (get_or urgencies m no_urgency).prio) (own.own n row here))
