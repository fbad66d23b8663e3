-- The times of releases and of pending jobs. Plans of one transaction lie a period apart and a deadline is at most a
-- period, so at a release the job before is over: a transaction has at most one pending job, and to arrive at a tick
-- keeps the invariant.
use Rattle.std.proofs.Common.{◌≡◌, ◌≢◌, ◌⊎◌, ℕ, zero, suc, ◌+◌, ◌<◌, ◌≤◌, ◌==◌, Bool, true, false, cond, not, List, [], ◌∷◌, length, map, Option, None, Some, get_or, set as with_item, refl, ap, sym, ◌∙◌, subst, inl, inr, arith, get_or-set_same, get_or-set_other}
use Rattle.std.proofs.lemmas.List.{length-set, length-map}
use Rattle.std.proofs.lemmas.Bool.{cases_eq, cases_order, eqb-true, eq-eqb, eqb-false, not-true}
use Rattle.std.specs.Option.{option_map}
use Rattle.std.specs.List.{fold, filter}
use Rattle.rt_base.specs.declared.ids.JobId.{JobId}
use Rattle.std.proofs.Math.ListN.{get_or-map}
use Rattle.std.specs.Prelude.{nat_lt}
use Rattle.txn_set.specs.declared.decl.TxnDecl.{TxnDecl}
use Rattle.txn_set.specs.Set.{Set, no_txn, txn_of, IsCompiled, HasGoodTimes}
use Rattle.step_journal.specs.State.{State, Row, row_of, prio, new_row, pending}
use Rattle.rt_base.specs.declared.release.Plans.{Plans}
use Rattle.rt_base.specs.declared.release.Release.{Release}
use Rattle.step_journal.specs.LockRule.{in_falling_priority, placed}
use Rattle.step_journal.specs.Instant.{freed, with_row, with_end, with_late, is_due, with_cancellations, with_releases, arrived}
use Rattle.step_journal.specs.Step.{plans_of}
use Rattle.law_histories.proofs.Members.{In, in_filter, filter_in, in_pending, pending_in}
use Rattle.law_histories.proofs.Invariant.{IsPending, AreNamed, Protocol, in_range, written, same_row}
use Rattle.law_histories.proofs.Ends.{rows_without, left, IsOwn, end_keeps, release_keeps}

abbrev pub period_of : Set → JobId → ℕ
period_of set job = (txn_of set job.tx.0).period

abbrev pub deadline_of : Set → JobId → ℕ
deadline_of set job = (txn_of set job.tx.0).deadline

-- of one transaction, each release is planned a period after the one before, and has a greater serial
pub record Follows (set : Set) (r q : Release) : Type 0 where
  pub later : r.tick + period_of set r.job ≤ q.tick
  pub serial : r.job.serial < q.job.serial

abbrev pub AreSpaced : Set → List Release → Type 0
AreSpaced set [] = Unit {0}
AreSpaced set (r ∷ rs) = ((q : Release) → In q rs → r.job.tx.0 ≡ q.job.tx.0 → Follows set r q) × AreSpaced set rs

-- the rows and the plans go by transaction
pub record Frame (set : Set) (rows : List (Option Row)) : Type 0 where
  pub count : length rows ≡ length set.txns
  pub named : (n : ℕ) (x : Row) → row_of rows n ≡ Some x → x.job.tx.0 ≡ n

-- before the events of tick t
pub record Calendar (set : Set) (refused : JobId → Bool) (t : ℕ) (s : State) : Type 0 where
  pub alive : (x : Row) → IsPending s.rows x → t ≤ x.release + deadline_of set x.job
  pub future : (r : Release) → In r s.planned → t ≤ r.tick
  pub in_set : (r : Release) → In r s.planned → r.job.tx.0 < length set.txns
  pub spaced : AreSpaced set s.planned
  pub behind : (x : Row) (r : Release) → IsPending s.rows x → In r s.planned → x.job.tx.0 ≡ r.job.tx.0 → (x.release + period_of set x.job ≤ r.tick) × (x.job.serial < r.job.serial)
  pub planned : (r : Release) → In r s.planned → (r.tick ≤ (plans_of s r.job.tx.0).last) × (r.job.serial < (plans_of s r.job.tx.0).number)
  pub released : (x : Row) → IsPending s.rows x → (x.release ≤ (plans_of s x.job.tx.0).last) × (x.job.serial < (plans_of s x.job.tx.0).number)
  pub fresh : (r : Release) → In r s.planned → refused r.job ≡ false
  pub asked : (j : JobId) → refused j ≡ true → j.serial < (plans_of s j.tx.0).number
  pub plans_count : length s.plans ≡ length set.txns

-- what the compiled set gives

pub times_at : (set : Set) (n : ℕ) → IsCompiled set → n < length set.txns → HasGoodTimes (txn_of set n)
times_at set n ok lt = ok.times n _ lt

-- of a compiled set, transactions of one priority are one, and so the priorities are distinct

pub same_number : (set : Set) → IsCompiled set → (m n : ℕ) → m < length set.txns → n < length set.txns → (txn_of set m).prio ≡ (txn_of set n).prio → m ≡ n
same_number set ok m n a b e =
    elim (cases_order m n) [ inl same ↦ same | inr o ↦ elim o [ inl lt ↦ absurd (ok.prios m n no_txn lt b e) | inr gt ↦ absurd (ok.prios n m no_txn gt a (sym e)) ] ]

pub distinct : (set : Set) (prios : List ℕ) → IsCompiled set → prios ≡ map (λ t. t.prio) set.txns → (i j : ℕ) → i < length prios → j < length prios → get_or prios i 0 ≡ get_or prios j 0 → i ≡ j
distinct set prios ok is i j li lj e =
    let size : length prios ≡ length set.txns = ap length is ∙ length-map set.txns (λ t. t.prio) in
    let at : (n : ℕ) → get_or prios n 0 ≡ (txn_of set n).prio = λ n. ap (λ (l : List ℕ). get_or l n 0) is ∙ get_or-map (λ (t : TxnDecl). t.prio) set.txns n no_txn in
    same_number set ok i j (omega (arith, li, size)) (omega (arith, lj, size)) (sym (at i) ∙ (e ∙ at j))

pub named_from : (set : Set) (rows : List (Option Row)) → IsCompiled set → Frame set rows → AreNamed set rows
named_from set rows ok frame = record {
  named = frame.named;
  positive = λ x h. let lt : x.job.tx.0 < length set.txns = omega (arith, in_range rows _ x h, frame.count) in let t = times_at set x.job.tx.0 ok lt in omega (arith, t.prio.0);
  apart = λ x y hx hy e.
      let a : x.job.tx.0 < length set.txns = omega (arith, in_range rows _ x hx, frame.count) in
      let b : y.job.tx.0 < length set.txns = omega (arith, in_range rows _ y hy, frame.count) in
      same_number set ok x.job.tx.0 y.job.tx.0 a b e;
}

pub deadline_le : (set : Set) (rows : List (Option Row)) (x : Row) → IsCompiled set → Frame set rows → IsPending rows x → deadline_of set x.job ≤ period_of set x.job
deadline_le set rows x ok frame h = (times_at set x.job.tx.0 ok (omega (arith, in_range rows _ x h, frame.count))).deadline.1

-- the Late cancellations

placed_in_at : (set : Set) (r x y : Row) (rs : List Row) (b : Bool) → (In y (placed set r rs) → (y ≡ r) ⊎ In y rs) → In y (cond b (r ∷ x ∷ rs) (x ∷ placed set r rs)) → (y ≡ r) ⊎ ((y ≡ x) ⊎ In y rs)
placed_in_at set r x y rs true rest h = h
placed_in_at set r x y rs false rest (inl e) = inr (inl e)
placed_in_at set r x y rs false rest (inr h) = elim (rest h) [ inl e ↦ inl e | inr i ↦ inr (inr i) ]

pub placed_in : (set : Set) (r y : Row) (rs : List Row) → In y (placed set r rs) → (y ≡ r) ⊎ In y rs
placed_in set r y [] h = h
placed_in set r y (x ∷ rs) h = placed_in_at set r x y rs (nat_lt (prio set x) (prio set r)) (placed_in set r y rs) h

in_placed_at : (set : Set) (r x y : Row) (rs : List Row) (b : Bool) → ((y ≡ r) ⊎ In y rs → In y (placed set r rs)) → (y ≡ r) ⊎ ((y ≡ x) ⊎ In y rs) → In y (cond b (r ∷ x ∷ rs) (x ∷ placed set r rs))
in_placed_at set r x y rs true rest h = h
in_placed_at set r x y rs false rest (inl e) = inr (rest (inl e))
in_placed_at set r x y rs false rest (inr h) = elim h [ inl e ↦ inl e | inr i ↦ inr (rest (inr i)) ]

in_placed : (set : Set) (r y : Row) (rs : List Row) → (y ≡ r) ⊎ In y rs → In y (placed set r rs)
in_placed set r y [] h = h
in_placed set r y (x ∷ rs) h = in_placed_at set r x y rs (nat_lt (prio set x) (prio set r)) (in_placed set r y rs) h

pub sorted_in : (set : Set) (y : Row) (rs : List Row) → In y (in_falling_priority set rs) → In y rs
sorted_in set y [] h = h
sorted_in set y (r ∷ rs) h = elim (placed_in set r y (in_falling_priority set rs) h) [ inl e ↦ inl e | inr i ↦ inr (sorted_in set y rs i) ]

pub in_sorted : (set : Set) (y : Row) (rs : List Row) → In y rs → In y (in_falling_priority set rs)
in_sorted set y [] h = h
in_sorted set y (r ∷ rs) (inl e) = in_placed set r y (in_falling_priority set rs) (inl e)
in_sorted set y (r ∷ rs) (inr h) = in_placed set r y (in_falling_priority set rs) (inr (in_sorted set y rs h))

-- a row that is left, at any place
left_at_some : (rows : List (Option Row)) (job : JobId) (n : ℕ) (y : Row) (o : Option Row) → get_or (with_item rows job.tx.0 None) n None ≡ o → option_map (freed job) o ≡ Some y
    → (r : Row) × (get_or (with_item rows job.tx.0 None) n None ≡ Some r) × (y ≡ freed job r)
left_at_some rows job n y None e h = absurd cc
left_at_some rows job n y (Some r) e h = (r, e, cc)

without_at : (rows : List (Option Row)) (n m : ℕ) (r : Row) → get_or (with_item rows n None) m None ≡ Some r → get_or rows m None ≡ Some r
without_at [] n m r h = absurd cc
without_at (x ∷ xs) zero zero r h = absurd cc
without_at (x ∷ xs) zero (suc m) r h = h
without_at (x ∷ xs) (suc n) zero r h = h
without_at (x ∷ xs) (suc n) (suc m) r h = without_at xs n m r h

pub frame_without : (set : Set) (rows : List (Option Row)) (job : JobId) → Frame set rows → Frame set (rows_without rows job)
frame_without set rows job frame = record {
  count = length-map (with_item rows job.tx.0 None) (option_map (freed job)) ∙ (length-set rows job.tx.0 None ∙ frame.count);
  named = λ n x h.
      let a = left_at_some rows job n x (get_or (with_item rows job.tx.0 None) n None) refl (sym (get_or-map (option_map (freed job)) (with_item rows job.tx.0 None) n None) ∙ h) in
      ap (λ (q : Row). q.job.tx.0) a.2 ∙ frame.named n a.0 (without_at rows job.tx.0 n a.0 a.1);
}

-- a row that went on from one of the state before: only its wait may be gone
pub record From (rows : List (Option Row)) (gone : List Row) (y : Row) : Type 0 where
  pub was : Row
  pub here : IsPending rows was
  pub job : y.job ≡ was.job
  pub release : y.release ≡ was.release
  pub work : y.work ≡ was.work
  pub stays : (r : Row) → In r gone → y.job.tx.0 ≢ r.job.tx.0

-- the state after the cancellations
pub record Cancelled (set : Set) (refused : JobId → Bool) (gone : List Row) (s s' : State) : Type 0 where
  pub frame : Frame set s'.rows
  pub protocol : Protocol set s'.rows refused
  pub planned : s'.planned ≡ s.planned
  pub plans : s'.plans ≡ s.plans
  pub now : s'.now ≡ s.now
  pub rows : (y : Row) → IsPending s'.rows y → From s.rows gone y

pub cancelled : (set : Set) (refused : JobId → Bool) (t : ℕ) (gone : List Row) (s : State) → Frame set s.rows → Protocol set s.rows refused → ((r : Row) → In r gone → IsOwn s.rows r.job) → Cancelled set refused gone s (fold (with_late t) s gone)
unfolding with_end
cancelled set refused t [] s frame inv own = record {
  frame = frame;
  protocol = inv;
  planned = refl;
  plans = refl;
  now = refl;
  rows = λ y h. record { was = y; here = h; job = refl; release = refl; work = refl; stays = λ r i. absurd i };
}
cancelled set refused t (r ∷ rs) s frame inv own =
    let next : Protocol set (rows_without s.rows r.job) refused = end_keeps set s.rows refused r.job inv (own r (inl refl)) in
    let rest = cancelled set refused t rs (with_late t s r) (frame_without set s.rows r.job frame) next (λ q i c hc e. own_later s.rows r.job q.job (own q (inr i)) c hc e) in
    record {
      frame = rest.frame;
      protocol = rest.protocol;
      planned = rest.planned;
      plans = rest.plans;
      now = rest.now;
      rows = λ y h.
          let f = rest.rows y h in
          let l = left s.rows r.job f.was f.here in
          record {
            was = l.was;
            here = l.here;
            job = f.job ∙ ap (λ (q : Row). q.job) l.is;
            release = f.release ∙ ap (λ (q : Row). q.release) l.is;
            work = f.work ∙ ap (λ (q : Row). q.work) l.is;
            stays = λ q i. elim i [
              | inl e ↦ (λ same. l.other (sym (ap (λ (k : JobId). k.tx.0) (f.job ∙ ap (λ (q : Row). q.job) l.is)) ∙ (same ∙ ap (λ (k : Row). k.job.tx.0) e)))
              | inr later ↦ f.stays q later
            ];
          };
    } where
      own_later : (rows : List (Option Row)) (job k : JobId) → IsOwn rows k → IsOwn (rows_without rows job) k
      own_later rows job k own c hc e =
          let l = left rows job c hc in
          let j : c.job ≡ l.was.job = ap (λ (q : Row). q.job) l.is in
          j ∙ own l.was l.here (sym (ap (λ (q : JobId). q.tx.0) j) ∙ e)

-- The releases.

abbrev pub AreApart : List Release → Type 0
AreApart [] = Unit {0}
AreApart (r ∷ rs) = ((q : Release) → In q rs → r.job.tx.0 ≢ q.job.tx.0) × AreApart rs

pub frame_with : (set : Set) (rows : List (Option Row)) (job : JobId) (t : ℕ) → Frame set rows → job.tx.0 < length rows → Frame set (with_row t rows job)
frame_with set rows job t frame lt = record {
  count = length-set rows job.tx.0 (Some (new_row job t)) ∙ frame.count;
  named = λ n x h. elim (cases_eq n job.tx.0) [
    | inl e ↦ (let here : get_or (with_row t rows job) n None ≡ Some (new_row job t) = subst (λ (k : ℕ). get_or (with_row t rows job) k None ≡ Some (new_row job t)) (sym e) (get_or-set_same rows job.tx.0 (Some (new_row job t)) None lt) in
        let is : x ≡ new_row job t = cc in
        ap (λ (q : Row). q.job.tx.0) is ∙ sym e)
    | inr ne ↦ frame.named n x (sym (get_or-set_other rows job.tx.0 n (Some (new_row job t)) None ne) ∙ h)
  ];
}

-- a row after the releases: one of before, or that of a release
pub record Came (due : List Release) (t : ℕ) (y : Row) : Type 0 where
  pub release : Release
  pub is_due : In release due
  pub is : y ≡ new_row release.job t

pub record Released (set : Set) (refused : JobId → Bool) (t : ℕ) (due : List Release) (rows rows' : List (Option Row)) : Type 0 where
  pub frame : Frame set rows'
  pub protocol : Protocol set rows' refused
  pub each : (y : Row) → IsPending rows' y → IsPending rows y ⊎ Came due t y

released : (set : Set) (refused : JobId → Bool) (t : ℕ) (due : List Release) (rows : List (Option Row)) → Frame set rows → Protocol set rows refused
    → ((r : Release) → In r due → row_of rows r.job.tx.0 ≡ None) → ((r : Release) → In r due → r.job.tx.0 < length set.txns) → ((r : Release) → In r due → refused r.job ≡ false) → AreApart due
    → Released set refused t due rows (fold (with_row t) rows (map (λ r. r.job) due))
released set refused t [] rows frame inv free in_set fresh apart = record { frame = frame; protocol = inv; each = λ y h. inl h }
released set refused t (r ∷ rs) rows frame inv free in_set fresh apart =
    let lt : r.job.tx.0 < length rows = omega (arith, in_set r (inl refl), frame.count) in
    let next : Protocol set (with_row t rows r.job) refused = release_keeps set rows refused r.job t inv lt (free r (inl refl)) (fresh r (inl refl)) in
    let rest = released set refused t rs (with_row t rows r.job) (frame_with set rows r.job t frame lt) next
    (λ q i. get_or-set_other rows r.job.tx.0 q.job.tx.0 (Some (new_row r.job t)) None (λ e. apart.0 q i (sym e)) ∙ free q (inr i))
    (λ q i. in_set q (inr i)) (λ q i. fresh q (inr i)) apart.1 in
    record {
      frame = rest.frame;
      protocol = rest.protocol;
      each = λ y h. elim (rest.each y h) [
        | inl before ↦ elim (written rows r.job.tx.0 (new_row r.job t) y lt refl before) [
          | inl e ↦ inr (record { release = r; is_due = inl refl; is = e })
          | inr o ↦ inl o.1
        ]
        | inr came ↦ inr (record { release = came.release; is_due = inr came.is_due; is = came.is })
      ];
    }

-- To arrive at a tick.

spaced_filter_at : (set : Set) (p : Release → Bool) (r : Release) (rs : List Release) (b : Bool) → ((q : Release) → In q rs → r.job.tx.0 ≡ q.job.tx.0 → Follows set r q) → AreSpaced set (filter p rs) → AreSpaced set (cond b (r ∷ filter p rs) (filter p rs))
spaced_filter_at set p r rs true h rest = (λ q i e. h q (filter_in p q rs i).0 e, rest)
spaced_filter_at set p r rs false h rest = rest

pub spaced_filter : (set : Set) (p : Release → Bool) (rs : List Release) → AreSpaced set rs → AreSpaced set (filter p rs)
spaced_filter set p [] h = h
spaced_filter set p (r ∷ rs) h = spaced_filter_at set p r rs (p r) h.0 (spaced_filter set p rs h.1)

apart_due_at : (set : Set) (t : ℕ) (r : Release) (rs : List Release) (b : Bool) → (r.tick == t) ≡ b → 1 ≤ period_of set r.job → ((q : Release) → In q rs → r.job.tx.0 ≡ q.job.tx.0 → Follows set r q)
    → AreApart (filter (λ q. q.tick == t) rs) → AreApart (cond b (r ∷ filter (λ q. q.tick == t) rs) (filter (λ q. q.tick == t) rs))
apart_due_at set t r rs true e pos h rest = (
  λ q i same.
      let f = filter_in (λ (k : Release). k.tick == t) q rs i in
      let a : q.tick ≡ t = eqb-true _ _ f.1 in
      let b : r.tick ≡ t = eqb-true _ _ e in
      let l : r.tick + period_of set r.job ≤ q.tick = (h q f.0 same).later in
      omega arith,
  rest,
)
apart_due_at set t r rs false e pos h rest = rest

-- releases of one tick are of different transactions
pub apart_due : (set : Set) (t : ℕ) (rs : List Release) → ((r : Release) → In r rs → 1 ≤ period_of set r.job) → AreSpaced set rs → AreApart (filter (λ q. q.tick == t) rs)
apart_due set t [] pos h = tt
apart_due set t (r ∷ rs) pos h = apart_due_at set t r rs (r.tick == t) refl (pos r (inl refl)) h.0 (apart_due set t rs (λ q i. pos q (inr i)) h.1)

-- of two planned releases of one transaction one follows the other
pub spaced_two : (set : Set) (r q : Release) (rs : List Release) → In r rs → In q rs → AreSpaced set rs → r.job.tx.0 ≡ q.job.tx.0 → (r ≡ q) ⊎ (Follows set r q ⊎ Follows set q r)
spaced_two set r q [] i j h same = absurd i
spaced_two set r q (x ∷ rs) (inl a) (inl b) h same = inl (a ∙ sym b)
spaced_two set r q (x ∷ rs) (inl a) (inr j) h same = inr (inl (subst (λ (k : Release). Follows set k q) (sym a) (h.0 q j (sym (ap (λ (k : Release). k.job.tx.0) a) ∙ same))))
spaced_two set r q (x ∷ rs) (inr i) (inl b) h same = inr (inr (subst (λ (k : Release). Follows set k r) (sym b) (h.0 r i (sym (ap (λ (k : Release). k.job.tx.0) b) ∙ sym same))))
spaced_two set r q (x ∷ rs) (inr i) (inr j) h same = spaced_two set r q rs i j h.1 same

pub row_none : (rows : List (Option Row)) (n : ℕ) (o : Option Row) → row_of rows n ≡ o → ((x : Row) → row_of rows n ≡ Some x → ⊥) → o ≡ None
row_none rows n None e h = refl
row_none rows n (Some x) e h = absurd (h x e)

pub record Sound (set : Set) (refused : JobId → Bool) (t : ℕ) (s : State) : Type 0 where
  pub frame : Frame set s.rows
  pub protocol : Protocol set s.rows refused
  pub calendar : Calendar set refused t s

-- before the events of tick t, that is, after a step's effect; and after them
module _ (set : Set) (refused : JobId → Bool) (t : ℕ) (s : State) (ok : IsCompiled set) (sound : Sound set refused t s) where
  unfoldable pub late_rows : List Row
  late_rows = in_falling_priority set (filter (is_due set t) (pending s.rows))

  unfoldable pub after_cancelled : State
  after_cancelled = fold (with_late t) (record s { now = t }) late_rows

  late_own : (r : Row) → In r late_rows → IsOwn s.rows r.job
  unfolding late_rows
  late_own r i c hc e =
      let f = filter_in (is_due set t) r (pending s.rows) (sorted_in set r (filter (is_due set t) (pending s.rows)) i) in
      let at = pending_in s.rows r f.0 in
      let n : r.job.tx.0 ≡ at.0 = sound.frame.named at.0 r at.1 in
      let here : IsPending s.rows r = subst (λ (k : ℕ). get_or s.rows k None ≡ Some r) (sym n) at.1 in
      ap (λ (q : Row). q.job) (same_row s.rows c r hc here e)

  pub after_late : Cancelled set refused late_rows (record s { now = t }) after_cancelled
  unfolding after_cancelled
  after_late = cancelled set refused t late_rows (record s { now = t }) sound.frame sound.protocol late_own

  -- whoever is left has time beyond t
  pub still_alive : (y : Row) → IsPending after_cancelled.rows y → t + 1 ≤ y.release + deadline_of set y.job
  unfolding late_rows after_cancelled
  still_alive y h =
      let f = after_late.rows y h in
      let le : t ≤ f.was.release + deadline_of set f.was.job = sound.calendar.alive f.was f.here in
      let d : deadline_of set y.job ≡ deadline_of set f.was.job = ap (deadline_of set) f.job in
      elim (cases_eq (f.was.release + deadline_of set f.was.job) t) [
        | inl due ↦ absurd (f.stays f.was (in_sorted set f.was _ (in_filter (is_due set t) f.was (pending s.rows) (in_pending s.rows f.was.job.tx.0 f.was f.here) (eq-eqb _ _ due))) (ap (λ (k : JobId). k.tx.0) f.job))
        | inr ne ↦ omega (arith, f.release)
      ]

  pub planned_before : (r : Release) → In r after_cancelled.planned → In r s.planned
  planned_before r i = subst (λ (l : List Release). In r l) after_late.planned i

  unfoldable pub due : List Release
  due = filter (λ r. r.tick == t) after_cancelled.planned

  pub nobody_there : (r : Release) → In r due → row_of after_cancelled.rows r.job.tx.0 ≡ None
  unfolding due
  nobody_there r i =
      let f = filter_in (λ (q : Release). q.tick == t) r after_cancelled.planned i in
      let now : r.tick ≡ t = eqb-true _ _ f.1 in
      row_none after_cancelled.rows r.job.tx.0 (row_of after_cancelled.rows r.job.tx.0) refl (λ x h.
      let n : x.job.tx.0 ≡ r.job.tx.0 = after_late.frame.named r.job.tx.0 x h in
      let here : IsPending after_cancelled.rows x = subst (λ (k : ℕ). get_or after_cancelled.rows k None ≡ Some x) (sym n) h in
      let from = after_late.rows x here in
      let j : x.job.tx.0 ≡ from.was.job.tx.0 = ap (λ (k : JobId). k.tx.0) from.job in
      let b = sound.calendar.behind from.was r from.here (planned_before r f.0) (sym j ∙ n) in
      let d : deadline_of set from.was.job ≤ period_of set from.was.job = deadline_le set s.rows from.was ok sound.frame from.here in
      let a : t + 1 ≤ x.release + deadline_of set x.job = still_alive x here in
      let e : deadline_of set x.job ≡ deadline_of set from.was.job = ap (deadline_of set) from.job in
      omega (arith, b.0, from.release))

  pub period_pos : (r : Release) → In r after_cancelled.planned → 1 ≤ period_of set r.job
  period_pos r i = (times_at set r.job.tx.0 ok (sound.calendar.in_set r (planned_before r i))).period.0

  pub spaced_before : AreSpaced set after_cancelled.planned
  spaced_before = subst (AreSpaced set) (sym after_late.planned) sound.calendar.spaced

  pub after_due : Released set refused t due after_cancelled.rows (fold (with_row t) after_cancelled.rows (map (λ r. r.job) due))
  unfolding due
  after_due = released set refused t due after_cancelled.rows after_late.frame after_late.protocol nobody_there
      (λ r i. sound.calendar.in_set r (planned_before r (filter_in (λ (q : Release). q.tick == t) r after_cancelled.planned i).0))
      (λ r i. sound.calendar.fresh r (planned_before r (filter_in (λ (q : Release). q.tick == t) r after_cancelled.planned i).0))
      (apart_due set t after_cancelled.planned period_pos spaced_before)

  pub left_planned : (r : Release) → In r (filter (λ q. not (q.tick == t)) after_cancelled.planned) → In r s.planned × (r.tick ≢ t)
  left_planned r i =
      let f = filter_in (λ (q : Release). not (q.tick == t)) r after_cancelled.planned i in
      (planned_before r f.0, eqb-false _ _ (not-true _ f.1))

  pub came_at : (y : Row) → (c : Came due t y) → In c.release s.planned × (c.release.tick ≡ t)
  unfolding due
  came_at y c =
      let f = filter_in (λ (q : Release). q.tick == t) c.release after_cancelled.planned c.is_due in
      (planned_before c.release f.0, eqb-true _ _ f.1)

  same_plans : (n : ℕ) → plans_of after_cancelled n ≡ plans_of s n
  same_plans n = ap (λ (l : List Plans). get_or l n (record { number = 0; last = 0 })) after_late.plans

  pub arrived_sound : Sound set refused (t + 1) (arrived set t s)
  unfolding arrived with_releases with_cancellations after_cancelled due late_rows
  arrived_sound = record {
    frame = after_due.frame;
    protocol = after_due.protocol;
    calendar = record {
      alive = λ y h. elim (after_due.each y h) [
        | inl b ↦ still_alive y b
        | inr c ↦ (let at = came_at y c in
            let e : y.release ≡ t = ap (λ (q : Row). q.release) c.is in
            let d : deadline_of set y.job ≡ deadline_of set c.release.job = ap (λ (q : Row). deadline_of set q.job) c.is in
            let p = (times_at set c.release.job.tx.0 ok (sound.calendar.in_set c.release at.0)).deadline.0 in
            omega (arith, p))
      ];
      future = λ r i. let l = left_planned r i in let f : t ≤ r.tick = sound.calendar.future r l.0 in let ne : r.tick ≢ t = l.1 in omega arith;
      in_set = λ r i. sound.calendar.in_set r (left_planned r i).0;
      spaced = spaced_filter set (λ r. not (r.tick == t)) after_cancelled.planned spaced_before;
      behind = λ y r h i same. elim (after_due.each y h) [
        | inl b ↦ (let from = after_late.rows y b in
            let j : y.job.tx.0 ≡ from.was.job.tx.0 = ap (λ (k : JobId). k.tx.0) from.job in
            let old = sound.calendar.behind from.was r from.here (left_planned r i).0 (sym j ∙ same) in
            let p : period_of set y.job ≡ period_of set from.was.job = ap (period_of set) from.job in
            let n : y.job.serial ≡ from.was.job.serial = ap (λ (k : JobId). k.serial) from.job in
            (omega (arith, old.0, from.release), omega (arith, old.1)))
        | inr c ↦ (let at = came_at y c in
            let l = left_planned r i in
            let j : y.job ≡ c.release.job = ap (λ (q : Row). q.job) c.is in
            let e : y.release ≡ t = ap (λ (q : Row). q.release) c.is in
            let p : period_of set y.job ≡ period_of set c.release.job = ap (period_of set) j in
            let n : y.job.serial ≡ c.release.job.serial = ap (λ (k : JobId). k.serial) j in
            let fo = spaced_two set c.release r s.planned at.0 l.0 sound.calendar.spaced (sym (ap (λ (k : JobId). k.tx.0) j) ∙ same) in
            elim fo [
              | inl is ↦ absurd (l.1 (sym (ap (λ (q : Release). q.tick) is) ∙ at.1))
              | inr o ↦ elim o [
                | inl f ↦ (omega (arith, f.later, at.1), omega (arith, f.serial))
                | inr g ↦ absurd (let u : t ≤ r.tick = sound.calendar.future r l.0 in let pos = (times_at set r.job.tx.0 ok (sound.calendar.in_set r l.0)).period.0 in omega (arith, g.later, at.1, pos))
              ]
            ])
      ];
      planned = λ r i. let o = sound.calendar.planned r (left_planned r i).0 in let e = same_plans r.job.tx.0 in (omega (arith, o.0, ap (λ (p : Plans). p.last) e), omega (arith, o.1, ap (λ (p : Plans). p.number) e));
      released = λ y h. let e = same_plans y.job.tx.0 in elim (after_due.each y h) [
        | inl b ↦ (let from = after_late.rows y b in
            let o = sound.calendar.released from.was from.here in
            let j = ap (λ (k : JobId). plans_of s k.tx.0) from.job in
            let n : y.job.serial ≡ from.was.job.serial = ap (λ (k : JobId). k.serial) from.job in
            (omega (arith, o.0, from.release, ap (λ (p : Plans). p.last) (e ∙ j)), omega (arith, o.1, ap (λ (p : Plans). p.number) (e ∙ j))))
        | inr c ↦ (let at = came_at y c in
            let o = sound.calendar.planned c.release at.0 in
            let j = ap (λ (q : Row). plans_of s q.job.tx.0) c.is in
            let u : y.release ≡ t = ap (λ (q : Row). q.release) c.is in
            let n : y.job.serial ≡ c.release.job.serial = ap (λ (q : Row). q.job.serial) c.is in
            (omega (arith, o.0, at.1, ap (λ (p : Plans). p.last) (e ∙ j)), omega (arith, o.1, ap (λ (p : Plans). p.number) (e ∙ j))))
      ];
      fresh = λ r i. sound.calendar.fresh r (left_planned r i).0;
      asked = λ j h. let e = same_plans j.tx.0 in omega (arith, sound.calendar.asked j h, ap (λ (p : Plans). p.number) e);
      plans_count = ap (λ (l : List Plans). length l) after_late.plans ∙ sound.calendar.plans_count;
    };
  }
