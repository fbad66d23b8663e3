-- The releases of a tick take place one after another, in any order, since they are of different transactions.
use Rattle.std.proofs.Common.{◌≡◌, ◌≢◌, ◌⊎◌, ℕ, zero, suc, ◌<◌, ◌==◌, not, Bool, true, false, cond, List, [], ◌∷◌, map, length, Option, None, Some, get_or, set as with_item, refl, ap, sym, ◌∙◌, subst, inl, inr, arith, get_or-set_other}
use Rattle.std.proofs.lemmas.Bool.{eqb-true, eq-eqb}
use Rattle.std.proofs.lemmas.List.{length-set}
use Rattle.std.proofs.lemmas.List.Sorted.{length_permutation, IsPermutation-refl}
use Rattle.std.specs.List.{filter, fold, All}
use Rattle.rt_base.specs.declared.ids.JobId.{JobId}
use Rattle.rt_base.specs.declared.release.Release.{Release}
use Rattle.release_calendar.specs.Agenda.{Agenda, Holds, NothingDue, IsDue, same_release, without, left as rest_of}
use Rattle.step_journal.specs.State.{Row, row_of, new_row}
use Rattle.step_journal.specs.Instant.{with_row}
use Rattle.law_histories.proofs.Members.{In, in_filter}
use Rattle.law_histories.proofs.Calendar.{AreApart}
use Rattle.release_calendar.proofs.Moves.{same-true as same_true, same-itself as same_self}
use Rattle.core_tables.specs.Changes.{due_jobs, later}
use Rattle.core_tables.specs.Arriving.{CanRelease}

-- members

pub contains_in : {A : Type 0} (xs : List A) (k : ℕ) (x : A) → k < length xs → get_or xs k x ≡ x → In x xs
contains_in [] k x lt e = absurd (omega arith)
contains_in (y ∷ ys) zero x lt e = inl (sym e)
contains_in (y ∷ ys) (suc k) x lt e = inr (contains_in ys k x (omega arith) e)

pub all_in : {A : Type 0} (P : A → Type 0) (xs : List A) → All P xs → (x : A) → In x xs → P x
all_in {A = A} P xs all x i = at xs (λ k d lt. all k d lt) i where
  at : (ys : List A) → ((k : ℕ) (d : A) → k < length ys → P (get_or ys k d)) → In x ys → P x
  at [] h i = absurd i
  at (y ∷ ys) h (inl e) = subst P (sym e) (h 0 y (omega arith))
  at (y ∷ ys) h (inr i) = at ys (λ k d lt. h (suc k) d (omega arith)) i

without_in_at : (r s x : Release) (rest : List Release) (b : Bool) → (In x (without r rest) → In x rest) → In x (cond b rest (s ∷ without r rest)) → (x ≡ s) ⊎ In x rest
without_in_at r s x rest true h i = inr i
without_in_at r s x rest false h (inl e) = inl e
without_in_at r s x rest false h (inr i) = inr (h i)

pub without_in : (r x : Release) (planned : List Release) → In x (without r planned) → In x planned
without_in r x [] i = i
without_in r x (s ∷ rest) i = without_in_at r s x rest (same_release r s) (without_in r x rest) i

-- the releases of other ticks stay

later_at : (tick : ℕ) (r s : Release) (rest : List Release) (b c : Bool) → same_release r s ≡ b → (s.tick == tick) ≡ c → r.tick ≡ tick → later tick (without r rest) ≡ later tick rest
    → later tick (cond b rest (s ∷ without r rest)) ≡ cond (not c) (s ∷ later tick rest) (later tick rest)
later_at tick r s rest true true e f at h = refl
later_at tick r s rest true false e f at h = absurd (let same : s.tick ≡ tick = ap (λ (q : Release). q.tick) (sym (same_true r s e)) ∙ at in let t : (s.tick == tick) ≡ true = eq-eqb _ _ same in cc)
later_at tick r s rest false c e f at h =
    ap (λ (l : List Release). cond (not (s.tick == tick)) (s ∷ l) l) h ∙ ap (λ (b : Bool). cond (not b) (s ∷ later tick rest) (later tick rest)) f

pub later_without : (tick : ℕ) (r : Release) (planned : List Release) → r.tick ≡ tick → later tick (without r planned) ≡ later tick planned
later_without tick r [] at = refl
later_without tick r (s ∷ rest) at =
    later_at tick r s rest (same_release r s) (s.tick == tick) refl refl at (later_without tick r rest at)

-- those of the tick

abbrev at_tick : ℕ → List Release → List Release
at_tick tick planned = filter (λ (q : Release). q.tick == tick) planned

due_at : (tick : ℕ) (r s : Release) (rest : List Release) (b c : Bool) → same_release r s ≡ b → (s.tick == tick) ≡ c → r.tick ≡ tick → at_tick tick (without r rest) ≡ without r (at_tick tick rest)
    → at_tick tick (cond b rest (s ∷ without r rest)) ≡ without r (cond c (s ∷ at_tick tick rest) (at_tick tick rest))
due_at tick r s rest true true e f at h = sym (ap (λ (b : Bool). cond b (at_tick tick rest) (s ∷ without r (at_tick tick rest))) e)
due_at tick r s rest true false e f at h = absurd (let same : s.tick ≡ tick = ap (λ (q : Release). q.tick) (sym (same_true r s e)) ∙ at in let t : (s.tick == tick) ≡ true = eq-eqb _ _ same in cc)
due_at tick r s rest false true e f at h =
    ap (λ (b : Bool). cond b (s ∷ at_tick tick (without r rest)) (at_tick tick (without r rest))) f
    ∙ (ap (λ (l : List Release). s ∷ l) h
    ∙ sym (ap (λ (b : Bool). cond b (at_tick tick rest) (s ∷ without r (at_tick tick rest))) e))
due_at tick r s rest false false e f at h =
    ap (λ (b : Bool). cond b (s ∷ at_tick tick (without r rest)) (at_tick tick (without r rest))) f ∙ h

due_without : (tick : ℕ) (r : Release) (planned : List Release) → r.tick ≡ tick → at_tick tick (without r planned) ≡ without r (at_tick tick planned)
due_without tick r [] at = refl
due_without tick r (s ∷ rest) at = due_at tick r s rest (same_release r s) (s.tick == tick) refl refl at (due_without tick r rest at)

apart_at : (r s : Release) (rest : List Release) (b : Bool) → AreApart (s ∷ rest) → AreApart (without r rest) → AreApart (cond b rest (s ∷ without r rest))
apart_at r s rest true h k = h.1
apart_at r s rest false h k = (λ q i. h.0 q (without_in r q rest i), k)

apart_without : (r : Release) (due : List Release) → AreApart due → AreApart (without r due)
apart_without r [] h = h
apart_without r (s ∷ rest) h = apart_at r s rest (same_release r s) h (apart_without r rest h.1)

-- of releases that are apart, one that stays is of another transaction than the one that is taken
other_at : (r s x : Release) (rest : List Release) (b : Bool) → same_release r s ≡ b → AreApart (s ∷ rest) → (x : Release) → In r (s ∷ rest) → (In r rest → In x (without r rest) → x.job.tx.0 ≢ r.job.tx.0)
    → In x (cond b rest (s ∷ without r rest)) → x.job.tx.0 ≢ r.job.tx.0
other_at r s y rest true e h x there k i = λ same. h.0 x i (ap (λ (q : Release). q.job.tx.0) (sym (same_true r s e)) ∙ sym same)
other_at r s y rest false e h x (inl is) k i = absurd (let t : same_release r s ≡ true = subst (λ (q : Release). same_release r q ≡ true) is (same_self r) in cc)
other_at r s y rest false e h x (inr there) k (inl is) = λ same. h.0 r there (ap (λ (q : Release). q.job.tx.0) (sym is) ∙ same)
other_at r s y rest false e h x (inr there) k (inr i) = k there i

other_tx : (r x : Release) (due : List Release) → AreApart due → In r due → In x (without r due) → x.job.tx.0 ≢ r.job.tx.0
other_tx r x [] h there i = absurd there
other_tx r x (s ∷ rest) h there i = other_at r s x rest (same_release r s) refl h x there (λ t j. other_tx r x rest h.1 t j) i

-- two releases of different transactions

set_swap : {A : Type 0} (xs : List A) (m n : ℕ) (a b : A) → m ≢ n → with_item (with_item xs m a) n b ≡ with_item (with_item xs n b) m a
set_swap [] m n a b ne = refl
set_swap (x ∷ xs) zero zero a b ne = absurd (ne refl)
set_swap (x ∷ xs) zero (suc n) a b ne = refl
set_swap (x ∷ xs) (suc m) zero a b ne = refl
set_swap {A = A} (x ∷ xs) (suc m) (suc n) a b ne = ap (λ (l : List A). x ∷ l) (set_swap xs m n a b (λ e. ne (ap suc e)))

abbrev jobs_of : List Release → List JobId
jobs_of due = map (λ (r : Release). r.job) due

first_at : (tick : ℕ) (r s : Release) (rest : List Release) (rows : List (Option Row)) (b : Bool) → same_release r s ≡ b → AreApart (s ∷ rest) → In r (s ∷ rest)
    → (In r rest → fold (with_row tick) (with_row tick rows s.job) (jobs_of rest) ≡ fold (with_row tick) (with_row tick (with_row tick rows s.job) r.job) (jobs_of (without r rest)))
    → fold (with_row tick) (with_row tick rows s.job) (jobs_of rest) ≡ fold (with_row tick) (with_row tick rows r.job) (jobs_of (cond b rest (s ∷ without r rest)))
first_at tick r s rest rows true e h there k = ap (λ (q : Release). fold (with_row tick) (with_row tick rows q.job) (jobs_of rest)) (sym (same_true r s e))
first_at tick r s rest rows false e h (inl is) k = absurd (let t : same_release r s ≡ true = subst (λ (q : Release). same_release r q ≡ true) is (same_self r) in cc)
first_at tick r s rest rows false e h (inr there) k =
    k there
    ∙ ap (λ (l : List (Option Row)). fold (with_row tick) l (jobs_of (without r rest)))
    (set_swap rows s.job.tx.0 r.job.tx.0 (Some (new_row s.job tick)) (Some (new_row r.job tick)) (h.0 r there))

-- any of them may be the first
pub first_release : (tick : ℕ) (r : Release) (due : List Release) (rows : List (Option Row)) → AreApart due → In r due
    → fold (with_row tick) rows (jobs_of due) ≡ fold (with_row tick) (with_row tick rows r.job) (jobs_of (without r due))
first_release tick r [] rows h there = absurd there
first_release tick r (s ∷ rest) rows h there =
    first_at tick r s rest rows (same_release r s) refl h there (λ t. first_release tick r rest (with_row tick rows s.job) h.1 t)

-- one of the releases of a tick

abbrev pub one : JobId → ℕ → Release
one job tick = record { job = job; tick = tick }

pub due_in : (tick : ℕ) (planned : List Release) (job : JobId) → IsDue tick planned job → In (one job tick) planned
due_in tick planned job due = contains_in planned due.here.0 (one job tick) due.here.1 due.here.2

due_in_tick : (tick : ℕ) (planned : List Release) (job : JobId) → IsDue tick planned job → In (one job tick) (at_tick tick planned)
due_in_tick tick planned job due = in_filter (λ (q : Release). q.tick == tick) (one job tick) planned (due_in tick planned job due) (eq-eqb tick tick refl)

module _ (tick : ℕ) (rows : List (Option Row)) (planned : List Release) (job : JobId) (can : CanRelease tick rows planned) (due : IsDue tick planned job) where
  pub release_rows : fold (with_row tick) rows (due_jobs tick planned) ≡ fold (with_row tick) (with_row tick rows job) (due_jobs tick (without (one job tick) planned))
  release_rows =
      first_release tick (one job tick) (at_tick tick planned) rows can.apart (due_in_tick tick planned job due)
      ∙ ap (λ (l : List Release). fold (with_row tick) (with_row tick rows job) (jobs_of l)) (sym (due_without tick (one job tick) planned refl))

  pub release_there : job.tx.0 < length rows
  release_there = can.in_range (one job tick) (due_in tick planned job due) refl

  pub release_free : row_of rows job.tx.0 ≡ None
  release_free = can.free (one job tick) (due_in tick planned job due) refl

  pub release_can : CanRelease tick (with_row tick rows job) (without (one job tick) planned)
  release_can = record {
    in_range = λ r i e. omega (arith, can.in_range r (without_in (one job tick) r planned i) e, length-set rows job.tx.0 (Some (new_row job tick)));
    free = λ r i e.
        let at : In r (without (one job tick) (at_tick tick planned)) =
        subst (λ (l : List Release). In r l) (due_without tick (one job tick) planned refl) (in_filter (λ (q : Release). q.tick == tick) r (without (one job tick) planned) i (eq-eqb r.tick tick e)) in
        get_or-set_other rows job.tx.0 r.job.tx.0 (Some (new_row job tick)) None (other_tx (one job tick) r (at_tick tick planned) can.apart (due_in_tick tick planned job due) at)
        ∙ can.free r (without_in (one job tick) r planned i) e;
    apart = subst AreApart (sym (due_without tick (one job tick) planned refl)) (apart_without (one job tick) (at_tick tick planned) can.apart);
  }

-- with none due

none_at : (tick : ℕ) (s : Release) (rest : List Release) (b : Bool) → (s.tick == tick) ≡ b → s.tick ≢ tick → (at_tick tick rest ≡ []) × (later tick rest ≡ rest)
    → (cond b (s ∷ at_tick tick rest) (at_tick tick rest) ≡ []) × (cond (not b) (s ∷ later tick rest) (later tick rest) ≡ s ∷ rest)
none_at tick s rest true e ne h = absurd (ne (eqb-true _ _ e))
none_at tick s rest false e ne h = (h.0, ap (λ (l : List Release). s ∷ l) h.1)

none_in : (tick : ℕ) (planned : List Release) → ((r : Release) → In r planned → r.tick ≢ tick) → (at_tick tick planned ≡ []) × (later tick planned ≡ planned)
none_in tick [] h = (refl, refl)
none_in tick (s ∷ rest) h = none_at tick s rest (s.tick == tick) refl (h s (inl refl)) (none_in tick rest (λ r i. h r (inr i)))

pub none_due : (tick : ℕ) (planned : List Release) → NothingDue tick planned → (due_jobs tick planned ≡ []) × (later tick planned ≡ planned)
none_due tick planned none =
    let h = none_in tick planned (λ r i. all_in (λ (q : Release). q.tick ≢ tick) planned none r i) in
    (ap jobs_of h.0, h.1)

-- one less is planned

less_at : (r s : Release) (rest : List Release) (b : Bool) → same_release r s ≡ b → In r (s ∷ rest) → (In r rest → length (without r rest) < length rest) → length (cond b rest (s ∷ without r rest)) < suc (length rest)
less_at r s rest true e there h = omega arith
less_at r s rest false e (inl is) h = absurd (let t : same_release r s ≡ true = subst (λ (q : Release). same_release r q ≡ true) is (same_self r) in cc)
less_at r s rest false e (inr there) h = omega (arith, h there)

less_planned : (r : Release) (planned : List Release) → In r planned → length (without r planned) < length planned
less_planned r [] there = absurd there
less_planned r (s ∷ rest) there = less_at r s rest (same_release r s) refl there (less_planned r rest)

pub less_kept : (tick : ℕ) (old new : Agenda) (job : JobId)
    → ((planned : List Release) → Holds old planned → IsDue tick planned job) → ((planned : List Release) → Holds old planned → Holds new (rest_of tick (Some job) planned))
    → length new.planned < length old.planned
less_kept tick old new job due rest =
    let same : Holds old old.planned = IsPermutation-refl old.planned in
    omega (
      arith,
      less_planned (one job tick) old.planned (due_in tick old.planned job (due old.planned same)),
      length_permutation (without (one job tick) old.planned) new.planned (rest old.planned same),
    )
