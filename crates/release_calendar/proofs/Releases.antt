-- The queues' releases as a list, in each order of the list.
use Rattle.std.proofs.Common.{◌≡◌, ℕ, zero, ◌+◌, ◌^◌, ◌<◌, ◌≤◌, ◌==◌, Bool, true, false, cond, List, [], ◌∷◌, ◌++◌, length, get_or, set, map, take, drop, suc, replicate, Some, None, refl, ap, sym, ◌∙◌, subst, inl, inr, arith}
use Rattle.std.proofs.lemmas.Bool.{cases_eq, eqb-true}
use Rattle.std.proofs.lemmas.List.{get_or-set_same, get_or-set_other, length-set, length-map, length-replicate}
use Rattle.std.proofs.lemmas.List.Elements.{All-map, All-nil, All-push, All-weaker, All-append, All-take, All-drop}
use Rattle.std.proofs.lemmas.List.Sorted.{IsPermutation-sym, IsPermutation-trans, IsPermutation-map, IsPermutation-push_more, length_permutation, All-permutation, Contains-permutation}
use Rattle.std.specs.List.{All, Contains, remove}
use Rattle.std.specs.List.Sorted.{IsPermutation}
use Rattle.rt_base.specs.declared.release.Plans.{Plans}
use Rattle.rt_base.specs.declared.release.Release.{Release}
use Rattle.release_calendar.specs.declared.planned.Planned.{Planned}
use Rattle.release_calendar.specs.Agenda.{Agenda, job_of, no_plans, earliest, ArePeriods, IsPlanned, NothingDue, IsDue, least_tick, without}
use Rattle.release_calendar.specs.Queues.{queue_of, queued, releases, release_of, IsCalendar, IsFirstTick, IsPlace, NoneAt}
use Rattle.release_calendar.proofs.Keeps.{none_queued_at, empty_at}
use Rattle.release_calendar.proofs.Moves.{taken}
use Rattle.release_calendar.proofs.Splits.{queued_put, queued_take}
use Rattle.release_calendar.proofs.Ticks.{least_in, none_in}

abbrev pub agenda : List ℕ → List Plans → List (List Planned) → ℕ → Agenda
agenda periods plans queues room = record { periods = periods; plans = plans; planned = releases queues; room = room }

contains_map : (items : List Planned) (x : Planned) → Contains items x → Contains (map release_of items) (release_of x)
contains_map items x h = at items h.0 h.1 h.2 where
  at : (items : List Planned) (k : ℕ) → k < length items → get_or items k x ≡ x → Contains (map release_of items) (release_of x)
  at [] k lt e = absurd (omega arith)
  at (r ∷ rest) zero lt e = (0, omega arith, ap release_of e)
  at (r ∷ rest) (suc k) lt e = let more : Contains (map release_of rest) (release_of x) = at rest k (omega arith) e in (suc more.0, omega (arith, more.1), more.2)

pub first_tick : (queues : List (List Planned)) (tick : ℕ) (planned : List Release) → IsFirstTick tick queues → IsPermutation planned (releases queues) → least_tick planned ≡ Some tick
first_tick queues tick planned is p =
    let at : is.here.0.tick ≡ tick = is.here.2 in
    subst (λ (t : ℕ). least_tick planned ≡ Some t) at
    (least_in planned (releases queues) (release_of is.here.0) p
    (All-map (λ (r : Release). is.here.0.tick ≤ r.tick) release_of (queued queues) (All-weaker (λ q. tick ≤ q.tick) (λ q. is.here.0.tick ≤ q.tick) (λ q h. omega (arith, h, at)) (queued queues) is.before))
    (contains_map (queued queues) is.here.0 is.here.1))

pub none_planned : (queues : List (List Planned)) (planned : List Release) → queued queues ≡ [] → IsPermutation planned (releases queues) → least_tick planned ≡ None
none_planned queues planned e p = none_in planned (releases queues) p (length-map (queued queues) release_of ∙ ap length e)

pub how_many : (queues : List (List Planned)) (planned : List Release) → IsPermutation planned (releases queues) → length planned ≡ length (queued queues)
how_many queues planned p = sym (length_permutation planned (releases queues) p) ∙ length-map (queued queues) release_of

pub nothing_due : (queues : List (List Planned)) (tick : ℕ) (planned : List Release) → NoneAt tick (queued queues) → IsPermutation planned (releases queues) → NothingDue tick planned
nothing_due queues tick planned a p = All-permutation (λ (r : Release). r.tick ≡ tick → ⊥) (releases queues) planned (IsPermutation-sym planned (releases queues) p) (All-map (λ (r : Release). r.tick ≡ tick → ⊥) release_of (queued queues) a)

-- ---- the release at a place

less_releases : (queues : List (List Planned)) (tx index : ℕ) (p : Planned) → tx < length queues → index < length (queue_of queues tx) → p ≡ get_or (queue_of queues tx) index p → IsPermutation (releases queues) (release_of p ∷ releases (set queues tx (remove (queue_of queues tx) index)))
less_releases queues tx index p lt in' e = IsPermutation-map release_of (queued queues) (p ∷ queued (set queues tx (remove (queue_of queues tx) index))) (queued_take queues tx index p lt in' e)

pub is_due : (queues : List (List Planned)) (tick tx index : ℕ) (p : Planned) (planned : List Release) → IsPlace tick queues tx index → p ≡ get_or (queue_of queues tx) index p → p.tx ≡ tx → IsPermutation planned (releases queues) → IsDue tick planned (job_of p)
is_due queues tick tx index p planned is e own held =
    let at : p.tick ≡ tick = ap (λ (q : Planned). q.tick) e ∙ is.at p in
    let out : IsPermutation planned (release_of p ∷ releases (set queues tx (remove (queue_of queues tx) index))) = IsPermutation-trans planned (releases queues) (release_of p ∷ releases (set queues tx (remove (queue_of queues tx) index))) held (less_releases queues tx index p is.known is.within e) in
    let here : Contains (release_of p ∷ releases (set queues tx (remove (queue_of queues tx) index))) (release_of p) = (0, omega arith, refl) in
    record {
      here = subst (λ (t : ℕ). Contains planned (record { job = job_of p; tick = t })) at (Contains-permutation (release_of p ∷ releases (set queues tx (remove (queue_of queues tx) index))) planned (release_of p) (IsPermutation-sym planned (release_of p ∷ releases (set queues tx (remove (queue_of queues tx) index))) out) here);
      least = All-permutation (λ (r : Release). r.tick ≡ tick → p.tx ≤ r.job.tx.0) (releases queues) planned (IsPermutation-sym planned (releases queues) held) (All-map (λ (r : Release). r.tick ≡ tick → p.tx ≤ r.job.tx.0) release_of (queued queues) (All-weaker (λ (q : Planned). q.tick ≡ tick → tx ≤ q.tx) (λ (q : Planned). q.tick ≡ tick → p.tx ≤ q.tx) (λ q h s. omega (arith, h s, own)) (queued queues) is.least));
    }

pub is_left : (queues : List (List Planned)) (tick tx index : ℕ) (p : Planned) (planned : List Release) → IsPlace tick queues tx index → p ≡ get_or (queue_of queues tx) index p → IsPermutation planned (releases queues) → IsPermutation (without (record { job = job_of p; tick = tick }) planned) (releases (set queues tx (remove (queue_of queues tx) index)))
is_left queues tick tx index p planned is e held =
    subst (λ (t : ℕ). IsPermutation (without (record { job = job_of p; tick = t }) planned) (releases (set queues tx (remove (queue_of queues tx) index)))) (ap (λ (q : Planned). q.tick) e ∙ is.at p)
    (taken planned (releases (set queues tx (remove (queue_of queues tx) index))) (release_of p)
    (IsPermutation-trans planned (releases queues) (release_of p ∷ releases (set queues tx (remove (queue_of queues tx) index))) held (less_releases queues tx index p is.known is.within e)))

latest_set : (queues : List (List Planned)) (tx last k : ℕ) (q : List Planned) → tx < length queues → (k ≡ tx → All (λ p. p.tick ≤ last) q) → All (λ p. p.tick ≤ last) (queue_of queues k) → All (λ p. p.tick ≤ last) (queue_of (set queues tx q) k)
latest_set queues tx last k q lt new old =
    elim (cases_eq k tx) [
      | inl e ↦ subst (λ (r : List Planned). All (λ p. p.tick ≤ last) r) (sym (ap (λ (n : ℕ). queue_of (set queues tx q) n) e ∙ get_or-set_same queues tx q [] lt)) (new e)
      | inr ne ↦ subst (λ (r : List Planned). All (λ p. p.tick ≤ last) r) (sym (get_or-set_other queues tx k q [] ne)) old
    ]

pub due_keeps : (periods : List ℕ) (plans : List Plans) (queues : List (List Planned)) (room tx index : ℕ) (p : Planned) → IsCalendar (agenda periods plans queues room) queues → tx < length queues → index < length (queue_of queues tx) → p ≡ get_or (queue_of queues tx) index p
    → IsCalendar (agenda periods plans (set queues tx (remove (queue_of queues tx) index)) room) (set queues tx (remove (queue_of queues tx) index))
due_keeps periods plans queues room tx index p is lt in' e = record {
  size = is.size;
  each = length-set queues tx (remove (queue_of queues tx) index) ∙ is.each;
  periods = is.periods;
  last = is.last;
  none = is.none;
  latest = λ k. latest_set queues tx (get_or plans k no_plans).last k (remove (queue_of queues tx) index) lt
      (λ same. All-append (λ (r : Planned). r.tick ≤ (get_or plans k no_plans).last) (take index (queue_of queues tx)) (drop (suc index) (queue_of queues tx))
      (All-take (λ (r : Planned). r.tick ≤ (get_or plans k no_plans).last) index (queue_of queues tx) (subst (λ (n : ℕ). All (λ (r : Planned). r.tick ≤ (get_or plans k no_plans).last) (queue_of queues n)) same (is.latest k)))
      (All-drop (λ (r : Planned). r.tick ≤ (get_or plans k no_plans).last) (suc index) (queue_of queues tx) (subst (λ (n : ℕ). All (λ (r : Planned). r.tick ≤ (get_or plans k no_plans).last) (queue_of queues n)) same (is.latest k))))
      (is.latest k);
  fits = omega (arith, is.fits, length_permutation (queued queues) (p ∷ queued (set queues tx (remove (queue_of queues tx) index))) (queued_take queues tx index p lt in' e));
}

-- ---- at the start

plans_at : (n tx : ℕ) → get_or (replicate n no_plans) tx no_plans ≡ no_plans
plans_at zero tx = refl
plans_at (suc n) zero = refl
plans_at (suc n) (suc tx) = plans_at n tx

pub new_calendar : (periods : List ℕ) (plans : List Plans) (queues : List (List Planned)) (room : ℕ) → ArePeriods periods → plans ≡ replicate (length periods) no_plans → queues ≡ replicate (length periods) [] → IsCalendar (agenda periods plans queues room) queues
new_calendar periods plans queues room are p q =
    let none : (tx : ℕ) → (get_or plans tx no_plans).last ≡ 0 = (λ tx. ap (λ (qs : List Plans). (get_or qs tx no_plans).last) p ∙ ap (λ (r : Plans). r.last) (plans_at (length periods) tx)) in
    record {
      size = ap length p ∙ length-replicate (length periods) no_plans;
      each = (none_queued_at queues (length periods) q).1;
      periods = are;
      last = λ tx. (let e : (get_or plans tx no_plans).last ≡ 0 = none tx in omega (arith, e));
      none = λ tx zero. none tx;
      latest = λ tx. subst (λ (r : List Planned). All (λ s. s.tick ≤ (get_or plans tx no_plans).last) r) (sym (ap (λ (qs : List (List Planned)). queue_of qs tx) q ∙ empty_at (length periods) tx)) (All-nil (λ (s : Planned). s.tick ≤ (get_or plans tx no_plans).last));
      fits = (let e : length (queued queues) ≡ 0 = ap length (none_queued_at queues (length periods) q).0 in omega (arith, e));
    }

pub none_released : (queues : List (List Planned)) (n : ℕ) → queues ≡ replicate n [] → releases queues ≡ []
none_released queues n e = ap (map release_of) (none_queued_at queues n e).0

-- ---- a release more

-- no release of a transaction is planned for a later tick than may be planned now
pub early : (periods : List ℕ) (plans : List Plans) (queues : List (List Planned)) (room tx tick : ℕ) → IsCalendar (agenda periods plans queues room) queues → earliest (agenda periods plans queues room) tx ≤ tick → All (λ p. p.tick ≤ tick) (queue_of queues tx)
early periods plans queues room tx tick is soon = All-weaker (λ (p : Planned). p.tick ≤ (get_or plans tx no_plans).last) (λ (p : Planned). p.tick ≤ tick) (λ p h. omega (arith, h, last_before)) (queue_of queues tx) (is.latest tx) where
  by : (b : Bool) → ((get_or plans tx no_plans).number == 0) ≡ b → cond b 0 ((get_or plans tx no_plans).last + get_or periods tx 0) ≤ tick → (get_or plans tx no_plans).last ≤ tick
  by true e h = omega (arith, is.none tx (eqb-true (get_or plans tx no_plans).number 0 e))
  by false e h = omega (arith, h)

  last_before : (get_or plans tx no_plans).last ≤ tick
  last_before = by ((get_or plans tx no_plans).number == 0) refl soon

pub plan_keeps : (periods : List ℕ) (plans plans' : List Plans) (queues : List (List Planned)) (room tx tick number : ℕ) (p : Planned) → IsCalendar (agenda periods plans queues room) queues → tx < length periods → length (queued queues) < room → All (λ r. r.tick ≤ tick) (queue_of queues tx) → p.tick ≡ tick → tick ≤ 2 ^ 40 → plans' ≡ set plans tx (record { number = number + 1; last = tick })
    → IsCalendar (agenda periods plans' (set queues tx (queue_of queues tx ++ p ∷ [])) room) (set queues tx (queue_of queues tx ++ p ∷ []))
plan_keeps periods plans plans' queues room tx tick number p is lt fits soon at small pe =
    subst (λ (qs : List Plans). IsCalendar (agenda periods qs (set queues tx (queue_of queues tx ++ p ∷ [])) room) (set queues tx (queue_of queues tx ++ p ∷ []))) (sym pe)
    (record {
      size = length-set plans tx (record { number = number + 1; last = tick }) ∙ is.size;
      each = length-set queues tx (queue_of queues tx ++ p ∷ []) ∙ is.each;
      periods = is.periods;
      last = λ k. elim (cases_eq k tx) [ inl e ↦ omega (arith, ap (λ (q : Plans). q.last) (mine k e), small) | inr ne ↦ omega (arith, ap (λ (q : Plans). q.last) (other k ne), is.last k) ];
      none = λ k zero. elim (cases_eq k tx) [
        | inl e ↦ absurd (omega (arith, ap (λ (q : Plans). q.number) (mine k e), zero))
        | inr ne ↦ ap (λ (q : Plans). q.last) (other k ne) ∙ is.none k (sym (ap (λ (q : Plans). q.number) (other k ne)) ∙ zero)
      ];
      latest = λ k. elim (cases_eq k tx) [
        | inl e ↦ subst (λ (q : Plans). All (λ r. r.tick ≤ q.last) (queue_of (set queues tx (queue_of queues tx ++ p ∷ [])) k)) (sym (mine k e))
            (subst (λ (q : List Planned). All (λ r. r.tick ≤ tick) q) (sym (ap (λ (n : ℕ). queue_of (set queues tx (queue_of queues tx ++ p ∷ [])) n) e ∙ get_or-set_same queues tx (queue_of queues tx ++ p ∷ []) [] (omega (arith, is.each))))
            (All-push (λ (r : Planned). r.tick ≤ tick) (queue_of queues tx) p soon (omega (arith, at))))
        | inr ne ↦ subst (λ (q : Plans). All (λ r. r.tick ≤ q.last) (queue_of (set queues tx (queue_of queues tx ++ p ∷ [])) k)) (sym (other k ne))
            (subst (λ (q : List Planned). All (λ r. r.tick ≤ (get_or plans k no_plans).last) q) (sym (get_or-set_other queues tx k (queue_of queues tx ++ p ∷ []) [] ne)) (is.latest k))
      ];
      fits = omega (arith, fits, length_permutation (p ∷ queued queues) (queued (set queues tx (queue_of queues tx ++ p ∷ []))) (queued_put queues tx p (omega (arith, is.each))));
    }) where
      mine : (k : ℕ) → k ≡ tx → get_or (set plans tx (record { number = number + 1; last = tick })) k no_plans ≡ record { number = number + 1; last = tick }
      mine k e = ap (λ (n : ℕ). get_or (set plans tx (record { number = number + 1; last = tick })) n no_plans) e ∙ get_or-set_same plans tx (record { number = number + 1; last = tick }) no_plans (omega (arith, is.size))

      other : (k : ℕ) → (k ≡ tx → ⊥) → get_or (set plans tx (record { number = number + 1; last = tick })) k no_plans ≡ get_or plans k no_plans
      other k ne = get_or-set_other plans tx k (record { number = number + 1; last = tick }) no_plans ne

pub planned_is : (periods : List ℕ) (plans : List Plans) (queues : List (List Planned)) (room tx serial tick : ℕ) → serial ≡ (get_or plans tx no_plans).number → tx < length queues
    → IsPlanned (agenda periods plans queues room) (agenda periods (set plans tx (record { number = serial + 1; last = tick })) (set queues tx (queue_of queues tx ++ record { tick = tick; tx = tx; serial = serial } ∷ [])) room) tx tick
planned_is periods plans queues room tx serial tick e lt = record {
  periods = refl;
  room = refl;
  plans = ap (λ (n : ℕ). set plans tx (record { number = n + 1; last = tick })) e;
  planned = λ planned held.
      subst (λ (n : ℕ). IsPermutation (planned ++ record { job = record { tx = record { 0 = tx }; serial = n }; tick = tick } ∷ []) (releases (set queues tx (queue_of queues tx ++ record { tick = tick; tx = tx; serial = serial } ∷ [])))) e
      (IsPermutation-push_more planned (releases queues) (releases (set queues tx (queue_of queues tx ++ record { tick = tick; tx = tx; serial = serial } ∷ []))) (record { job = record { tx = record { 0 = tx }; serial = serial }; tick = tick }) held
      (IsPermutation-map release_of (record { tick = tick; tx = tx; serial = serial } ∷ queued queues) (queued (set queues tx (queue_of queues tx ++ record { tick = tick; tx = tx; serial = serial } ∷ []))) (queued_put queues tx (record { tick = tick; tx = tx; serial = serial }) lt)));
}
