-- No more jobs of a transaction end than were planned for it, and so fewer than 2^32.
use Rattle.std.proofs.Common.{◌≡◌, ◌≢◌, ℕ, zero, suc, ◌+◌, ◌-◌, ◌^◌, ◌<◌, ◌≤◌, ◌==◌, Bool, true, false, cond, not, List, [], ◌∷◌, ◌++◌, map, length, Option, None, Some, get_or, set as with_item, refl, ap, sym, ◌∙◌, inl, inr, arith, get_or-set_same, get_or-set_other}
use Rattle.std.proofs.lemmas.Bool.{cases_eq, ne_eqb, eq-eqb}
use Rattle.std.specs.List.{filter, fold}
use Rattle.std.specs.Option.{option_map, option_and_then}
use Rattle.rt_base.specs.declared.ids.JobId.{JobId}
use Rattle.rt_base.specs.declared.operation.Op.{Op}
use Rattle.rt_base.specs.declared.operation.End.{End}
use Rattle.rt_base.specs.declared.operation.End.TheVariants.{Late}
use Rattle.rt_base.specs.declared.release.Release.{Release}
use Rattle.rt_base.specs.declared.release.Plans.{Plans}
use Rattle.txn_set.specs.Set.{Set, IsCompiled}
use Rattle.item_model.specs.Work.{items_after}
use Rattle.step_journal.specs.declared.entry.Entry.{Entry}
use Rattle.step_journal.specs.declared.entry.Entry.TheVariants.{Planned, Idle}
use Rattle.step_journal.specs.declared.entry.EndedJob.{EndedJob}
use Rattle.step_journal.specs.State.{State, Row, row_of, pending, opening, new_row}
use Rattle.step_journal.specs.LockRule.{Above, placed, in_falling_priority}
use Rattle.step_journal.specs.Running.{running, of_job}
use Rattle.step_journal.specs.Instant.{freed, with_end, with_late, with_row, is_due, with_cancellations, with_releases, arrived}
use Rattle.step_journal.specs.Step.{Event, plan, ask, idle, step, given, plans_of, may_plan, with_plan, next_job, may_ask, lock_refusal, row_after, end_by, settled, after_effect, with_step, with_wait, answered, asked, idled, next_tick}
use Rattle.step_journal.specs.History.{IsLegal, IsLegalFrom, state_of, states_after, state_after, state_given, event_of}
use Rattle.law_histories.proofs.Invariant.{IsPending, running_is}
use Rattle.law_histories.proofs.Calendar.{Frame, Sound, named_from, frame_without}
use Rattle.law_histories.proofs.Histories.{frame_set, may_plan_is}
use Rattle.law_histories.proofs.Never.{step_goes, entry_goes, refused_after, opening_sound}
use Rattle.law_histories.proofs.Counts.{no_plans}
use Rattle.board.specs.Answers.{ended_number}
use Rattle.board.proofs.Bounds.{asked_plans, idled_plans}
use Rattle.board.proofs.Overs.{gone_at}

-- how many of a list go by a number

abbrev bit : Bool → ℕ
bit b = cond b 1 0

abbrev number_of : {A : Type 0} → (A → ℕ) → ℕ → List A → ℕ
number_of f n xs = length (filter (λ a. f a == n) xs)

one_more : {A : Type 0} (x : A) (l : List A) (b : Bool) → length (cond b (x ∷ l) l) ≡ bit b + length l
one_more x l true = omega arith
one_more x l false = omega arith

more : {A : Type 0} (f : A → ℕ) (n : ℕ) (x : A) (xs : List A) → number_of f n (x ∷ xs) ≡ bit (f x == n) + number_of f n xs
more f n x xs = one_more x (filter (λ a. f a == n) xs) (f x == n)

appended : {A : Type 0} (f : A → ℕ) (n : ℕ) (xs ys : List A) → number_of f n (xs ++ ys) ≡ number_of f n xs + number_of f n ys
appended f n [] ys = omega arith
appended f n (x ∷ xs) ys = omega (arith, more f n x (xs ++ ys), more f n x xs, appended f n xs ys)

bit_le : (b : Bool) → bit b ≤ 1
bit_le true = omega arith
bit_le false = omega arith

bit_same : (a n : ℕ) → a ≡ n → bit (a == n) ≡ 1
bit_same a n e = ap bit (eq-eqb a n e)

bit_other : (a n : ℕ) → a ≢ n → bit (a == n) ≡ 0
bit_other a n ne = ap bit (ne_eqb a n ne)

-- a filter, and the others

filter_at : {A : Type 0} (f : A → ℕ) (n : ℕ) (p : A → Bool) (x : A) (xs : List A) (b : Bool) → p x ≡ b
    → number_of f n xs ≡ number_of f n (filter p xs) + number_of f n (filter (λ a. not (p a)) xs)
    → number_of f n (x ∷ xs) ≡ number_of f n (cond b (x ∷ filter p xs) (filter p xs)) + number_of f n (cond (not b) (x ∷ filter (λ a. not (p a)) xs) (filter (λ a. not (p a)) xs))
filter_at f n p x xs true e h = omega (arith, more f n x xs, more f n x (filter p xs), h)
filter_at f n p x xs false e h = omega (arith, more f n x xs, more f n x (filter (λ a. not (p a)) xs), h)

filter_split : {A : Type 0} (f : A → ℕ) (n : ℕ) (p : A → Bool) (xs : List A) → number_of f n xs ≡ number_of f n (filter p xs) + number_of f n (filter (λ a. not (p a)) xs)
filter_split f n p [] = omega arith
filter_split f n p (x ∷ xs) = filter_at f n p x xs (p x) refl (filter_split f n p xs)

abbrev row_tx : Row → ℕ
row_tx r = r.job.tx.0

placed_at : (n : ℕ) (r x : Row) (xs ys : List Row) (b : Bool) → number_of row_tx n ys ≡ bit (row_tx r == n) + number_of row_tx n xs
    → number_of row_tx n (cond b (r ∷ x ∷ xs) (x ∷ ys)) ≡ bit (row_tx r == n) + number_of row_tx n (x ∷ xs)
placed_at n r x xs ys true h = more row_tx n r (x ∷ xs)
placed_at n r x xs ys false h = omega (arith, more row_tx n x ys, more row_tx n x xs, h)

placed_number : (set : Set) (n : ℕ) (r : Row) (xs : List Row) → number_of row_tx n (placed set r xs) ≡ bit (row_tx r == n) + number_of row_tx n xs
placed_number set n r [] = more row_tx n r []
placed_number set n r (x ∷ xs) = placed_at n r x xs (placed set r xs) _ (placed_number set n r xs)

sorted_number : (set : Set) (n : ℕ) (xs : List Row) → number_of row_tx n (in_falling_priority set xs) ≡ number_of row_tx n xs
sorted_number set n [] = refl
sorted_number set n (x ∷ xs) = omega (arith, placed_number set n x (in_falling_priority set xs), sorted_number set n xs, more row_tx n x xs)

-- the row of a transaction

abbrev held : Option Row → ℕ
held None = 0
held (Some x) = 1

held_le : (o : Option Row) → held o ≤ 1
held_le None = omega arith
held_le (Some x) = omega arith

abbrev AreFrom : ℕ → List (Option Row) → Type 0
AreFrom b rows = (k : ℕ) (x : Row) → row_of rows k ≡ Some x → row_tx x ≡ b + k

from_next : (b : ℕ) (o : Option Row) (rows : List (Option Row)) → AreFrom b (o ∷ rows) → AreFrom (suc b) rows
from_next b o rows h k x e = omega (arith, h (suc k) x e)

pub record Few (rows : List (Option Row)) (b n : ℕ) : Type 0 where
  pub at : (k : ℕ) → b + k ≡ n → number_of row_tx n (pending rows) ≤ held (row_of rows k)
  pub before : n < b → number_of row_tx n (pending rows) ≡ 0

few_none : (rows : List (Option Row)) (b n : ℕ) → Few rows (suc b) n → (k : ℕ) → b + k ≡ n → number_of row_tx n (pending rows) ≤ held (row_of (None ∷ rows) k)
few_none rows b n h zero e = omega (arith, h.before (omega (arith, e)))
few_none rows b n h (suc k) e = h.at k (omega (arith, e))

few_some : (r : Row) (rows : List (Option Row)) (b n : ℕ) → row_tx r ≡ b → Few rows (suc b) n → (k : ℕ) → b + k ≡ n → number_of row_tx n (r ∷ pending rows) ≤ held (row_of (Some r ∷ rows) k)
few_some r rows b n own h zero e = omega (arith, more row_tx n r (pending rows), bit_le (row_tx r == n), h.before (omega (arith, e)))
few_some r rows b n own h (suc k) e = omega (arith, more row_tx n r (pending rows), bit_other (row_tx r) n (λ q. omega (arith, q, own, e)), h.at k (omega (arith, e)))

few : (rows : List (Option Row)) (b n : ℕ) → AreFrom b rows → Few rows b n
few [] b n h = record { at = λ k e. omega arith; before = λ lt. refl }
few (None ∷ rows) b n h =
    let rest = few rows (suc b) n (from_next b None rows h) in
    record { at = few_none rows b n rest; before = λ lt. rest.before (omega (arith, lt)) }
few (Some r ∷ rows) b n h =
    let rest = few rows (suc b) n (from_next b (Some r) rows h) in
    let own : row_tx r ≡ b = omega (arith, h 0 r refl) in
    record {
      at = few_some r rows b n own rest;
      before = λ lt. omega (arith, more row_tx n r (pending rows), bit_other (row_tx r) n (λ q. omega (arith, q, own, lt)), rest.before (omega (arith, lt)));
    }

gone_few : (set : Set) (t n : ℕ) (rows : List (Option Row)) → Frame set rows → number_of row_tx n (gone_at set t rows) ≤ held (row_of rows n)
gone_few set t n rows frame =
    let f = few rows 0 n (λ k x e. omega (arith, frame.named k x e)) in
    omega (arith, sorted_number set n (filter (is_due set t) (pending rows)), filter_split row_tx n (is_due set t) (pending rows), f.at n (omega arith))

row_map : (g : Row → Row) (rows : List (Option Row)) (n : ℕ) → row_of (map (option_map g) rows) n ≡ option_map g (row_of rows n)
row_map g [] n = refl
row_map g (o ∷ rows) zero = refl
row_map g (o ∷ rows) (suc n) = row_map g rows n

held_map : (g : Row → Row) (o : Option Row) → held (option_map g o) ≡ held o
held_map g None = refl
held_map g (Some x) = refl

none_there : (rows : List (Option Row)) (n : ℕ) → row_of (with_item rows n None) n ≡ None
none_there [] n = refl
none_there (x ∷ xs) zero = refl
none_there (x ∷ xs) (suc n) = none_there xs n

held_set : (rows : List (Option Row)) (m n : ℕ) (o : Option Row) → held (row_of (with_item rows m o) n) ≤ held (row_of rows n) + bit (m == n)
held_set rows m n o = elim (cases_eq m n) [
  | inl e ↦ omega (arith, held_le (row_of (with_item rows m o) n), bit_same m n e)
  | inr ne ↦ (let k : row_of (with_item rows m o) n ≡ row_of rows n = get_or-set_other rows m n o None (λ q. ne (sym q)) in omega (arith, ap held k))
]

-- where a job goes on, or waits, its transaction keeps its row
held_kept : (rows : List (Option Row)) (m n : ℕ) (o : Option Row) → held (row_of rows m) ≡ 1 → held (row_of (with_item rows m o) n) ≤ held (row_of rows n)
held_kept rows m n o own = elim (cases_eq m n) [
  | inl e ↦ omega (arith, held_le (row_of (with_item rows m o) n), own, ap (λ (k : ℕ). held (row_of rows k)) e)
  | inr ne ↦ (let k : row_of (with_item rows m o) n ≡ row_of rows n = get_or-set_other rows m n o None (λ q. ne (sym q)) in omega (arith, ap held k))
]

-- the jobs of a transaction that ended, are pending, or are planned

abbrev ended_tx : EndedJob → ℕ
ended_tx e = e.job.tx.0

abbrev release_tx : Release → ℕ
release_tx r = r.job.tx.0

abbrev over_or_here : ℕ → State → ℕ
over_or_here n s = ended_number s.ended n + held (row_of s.rows n)

abbrev all_of : ℕ → State → ℕ
all_of n s = over_or_here n s + number_of release_tx n s.planned

-- a job that ends leaves its row
gone_map : (s : State) (row : Row) (e : End) (t n : ℕ) → held (row_of (with_end row e t s).rows n) ≡ held (row_of (with_item s.rows (row_tx row) None) n)
unfolding with_end
gone_map s row e t n =
    ap held (row_map (freed row.job) (with_item s.rows (row_tx row) None) n) ∙ held_map (freed row.job) (row_of (with_item s.rows (row_tx row) None) n)

gone_own : (s : State) (row : Row) (e : End) (t n : ℕ) → row_tx row ≡ n → held (row_of (with_end row e t s).rows n) ≡ 0
gone_own s row e t n is =
    gone_map s row e t n ∙ (ap (λ (k : ℕ). held (row_of (with_item s.rows (row_tx row) None) k)) (sym is) ∙ ap held (none_there s.rows (row_tx row)))

gone_other : (s : State) (row : Row) (e : End) (t n : ℕ) → row_tx row ≢ n → held (row_of (with_end row e t s).rows n) ≡ held (row_of s.rows n)
gone_other s row e t n ne = gone_map s row e t n ∙ ap held (get_or-set_other s.rows (row_tx row) n None None (λ q. ne (sym q)))

ended_more : (s : State) (row : Row) (e : End) (t n : ℕ) → ended_number (with_end row e t s).ended n ≡ ended_number s.ended n + bit (row_tx row == n)
unfolding with_end
ended_more s row e t n =
    let last : EndedJob = record { job = row.job; release = row.release; end = e; tick = t } in
    omega (arith, appended ended_tx n s.ended (last ∷ []), more ended_tx n last [])

end_fits : (s : State) (row : Row) (e : End) (t n : ℕ) → (row_tx row ≡ n → held (row_of s.rows n) ≡ 1) → over_or_here n (with_end row e t s) ≤ over_or_here n s
end_fits s row e t n own = elim (cases_eq (row_tx row) n) [
  | inl is ↦ omega (arith, ended_more s row e t n, gone_own s row e t n is, own is, bit_le (row_tx row == n))
  | inr ne ↦ omega (arith, ended_more s row e t n, gone_other s row e t n ne, bit_other (row_tx row) n ne)
]

late_fits : (t n : ℕ) (gone : List Row) (s : State) → number_of row_tx n gone ≤ held (row_of s.rows n) → over_or_here n (fold (with_late t) s gone) ≤ over_or_here n s
late_fits t n [] s h = omega arith
late_fits t n (g ∷ gs) s h =
    let m = more row_tx n g gs in
    let one : row_tx g ≡ n → held (row_of s.rows n) ≡ 1 = λ e. omega (arith, m, bit_same (row_tx g) n e, h, held_le (row_of s.rows n)) in
    let rest : number_of row_tx n gs ≤ held (row_of (with_late t s g).rows n) = elim (cases_eq (row_tx g) n) [
      | inl e ↦ omega (arith, m, bit_same (row_tx g) n e, h, held_le (row_of s.rows n))
      | inr ne ↦ omega (arith, m, bit_other (row_tx g) n ne, h, gone_other s g Late t n ne)
    ] in
    omega (arith, late_fits t n gs (with_late t s g) rest, end_fits s g Late t n one)

late_planned : (t : ℕ) (gone : List Row) (s : State) → (fold (with_late t) s gone).planned ≡ s.planned
unfolding with_end
late_planned t [] s = refl
late_planned t (g ∷ gs) s = late_planned t gs (with_late t s g)

released_fits : (t n : ℕ) (ds : List Release) (rows : List (Option Row)) → held (row_of (fold (with_row t) rows (map (λ d. d.job) ds)) n) ≤ held (row_of rows n) + number_of release_tx n ds
released_fits t n [] rows = omega arith
released_fits t n (d ∷ ds) rows =
    omega (arith, released_fits t n ds (with_row t rows d.job), held_set rows d.job.tx.0 n (Some (new_row d.job t)), more release_tx n d ds)

-- no one is added by an arrival
arrived_fits : (set : Set) (t n : ℕ) (s : State) → Frame set s.rows → all_of n (arrived set t s) ≤ all_of n s
unfolding arrived with_cancellations with_releases
arrived_fits set t n s frame =
    let s1 : State = fold (with_late t) (record s { now = t }) (gone_at set t s.rows) in
    let a = late_fits t n (gone_at set t s.rows) (record s { now = t }) (gone_few set t n s.rows frame) in
    let b = released_fits t n (filter (λ (r : Release). r.tick == t) s1.planned) s1.rows in
    let c = filter_split release_tx n (λ (r : Release). r.tick == t) s1.planned in
    omega (arith, a, b, c, ap (λ (l : List Release). number_of release_tx n l) (late_planned t (gone_at set t s.rows) (record s { now = t })))

-- a granted step

end_planned : (s : State) (x : Row) (e : End) (t : ℕ) → (with_end x e t s).planned ≡ s.planned
unfolding with_end
end_planned s x e t = refl

settled_fits : (set : Set) (t n : ℕ) (x x' : Row) (o : Option End) (s : State) → IsPending s.rows x → row_tx x' ≡ row_tx x → all_of n (settled set x' t o s) ≤ all_of n s
settled_fits set t n x x' None s here same =
    omega (arith, held_kept s.rows (row_tx x') n (Some x') (ap (λ (k : ℕ). held (row_of s.rows k)) same ∙ ap held here))
settled_fits set t n x x' (Some e) s here same =
    let own : row_tx x' ≡ n → held (row_of s.rows n) ≡ 1 = λ q. ap (λ (k : ℕ). held (row_of s.rows k)) (sym q ∙ same) ∙ ap held here in
    let before : State = record s { items = items_after set.items x'.work x'.release e s.items } in
    omega (arith, end_fits before x' e t n own, ap (number_of release_tx n) (end_planned before x' e t))

settled_frame : (set : Set) (t : ℕ) (x : Row) (op : Op) (o : Option End) (s : State) → Frame set s.rows → IsPending s.rows x → Frame set (settled set (row_after s x op) t o s).rows
unfolding with_end
settled_frame set t x op None s frame here = frame_set set s.rows x (row_after s x op) frame here refl
settled_frame set t x op (Some e) s frame here = frame_without set s.rows x.job frame

answered_fits : (set : Set) (n : ℕ) (s : State) (x : Row) (op : Op) (o : Option Above) → Frame set s.rows → IsPending s.rows x → all_of n (answered set s x op o).1 ≤ all_of n s
unfolding with_step after_effect with_wait
answered_fits set n s x op None frame here =
    let how : Option End = end_by set (row_after s x op) (s.now + 1) op in
    let a = arrived_fits set (s.now + 1) n (settled set (row_after s x op) (s.now + 1) how s) (settled_frame set (s.now + 1) x op how s frame here) in
    omega (arith, a, settled_fits set (s.now + 1) n x (row_after s x op) how s here refl)
answered_fits set n s x op (Some above) frame here =
    omega (arith, held_kept s.rows (row_tx x) n (Some (record x { waits_on = Some above.holder })) (ap held here))

given_fits : (n : ℕ) (s : State) (b : Bool) (p : Entry × State) → all_of n p.1 ≤ all_of n s → all_of n (state_given s (given b p)) ≤ all_of n s
given_fits n s true p h = h
given_fits n s false p h = omega arith

own_fits : (set : Set) (n : ℕ) (s : State) (x : Row) (op : Op) (b : Bool) → Frame set s.rows → IsPending s.rows x → all_of n (state_given s (option_and_then (asked set s op) (cond b (Some x) None))) ≤ all_of n s
own_fits set n s x op true frame here =
    given_fits n s (may_ask set x op) (answered set s x op (lock_refusal set s x op)) (answered_fits set n s x op (lock_refusal set s x op) frame here)
own_fits set n s x op false frame here = omega arith

ask_fits : (set : Set) (n : ℕ) (s : State) (job : JobId) (op : Op) (o : Option Row) → Frame set s.rows → ((x : Row) → o ≡ Some x → IsPending s.rows x)
    → all_of n (state_given s (option_and_then (asked set s op) (option_and_then (of_job job) o))) ≤ all_of n s
ask_fits set n s job op None frame here = omega arith
ask_fits set n s job op (Some x) frame here = own_fits set n s x op _ frame (here x refl)

idle_fits : (set : Set) (n : ℕ) (s : State) (rows : List Row) (o : Option ℕ) → next_tick s.planned ≡ o → Frame set s.rows → all_of n (state_given s (idled set s rows)) ≤ all_of n s
idle_fits set n s (r ∷ rs) o e frame = omega arith
idle_fits set n s [] None e frame =
    omega (arith, ap (λ (k : Option ℕ). all_of n (state_given s (option_map (λ t. (Idle s.now t, arrived set t s)) k))) e)
idle_fits set n s [] (Some t) e frame =
    omega (arith, ap (λ (k : Option ℕ). all_of n (state_given s (option_map (λ t. (Idle s.now t, arrived set t s)) k))) e, arrived_fits set t n s frame)

-- a plan

plan_at : (n tx tick : ℕ) (s : State) (b : Bool)
    → ended_number s.ended n + held (row_of (cond b (with_row tick s.rows (next_job s tx)) s.rows) n) + number_of release_tx n (cond b s.planned (s.planned ++ record { job = next_job s tx; tick = tick } ∷ []))
    ≤ all_of n s + bit (tx == n)
plan_at n tx tick s true = omega (arith, held_set s.rows tx n (Some (new_row (next_job s tx) tick)))
plan_at n tx tick s false =
    let r : Release = record { job = next_job s tx; tick = tick } in
    omega (arith, appended release_tx n s.planned (r ∷ []), more release_tx n r [])

plan_fits : (n tx tick : ℕ) (s : State) → all_of n (with_plan s tx tick) ≤ all_of n s + bit (tx == n)
unfolding with_plan
plan_fits n tx tick s = plan_at n tx tick s (tick == s.now)

plan_number : (n tx tick : ℕ) (s : State) → tx < length s.plans → (plans_of (with_plan s tx tick) n).number ≡ (plans_of s n).number + bit (tx == n)
unfolding with_plan
plan_number n tx tick s lt =
    let p : Plans = record { number = (plans_of s tx).number + 1; last = tick } in
    elim (cases_eq tx n) [
      | inl e ↦ (let k : get_or (with_item s.plans tx p) tx no_plans ≡ p = get_or-set_same s.plans tx p no_plans lt in
          omega (arith, ap (λ (q : Plans). q.number) k, ap (λ (m : ℕ). (get_or (with_item s.plans tx p) m no_plans).number) e, ap (λ (m : ℕ). (plans_of s m).number) e, bit_same tx n e))
      | inr ne ↦ (let k : get_or (with_item s.plans tx p) n no_plans ≡ get_or s.plans n no_plans = get_or-set_other s.plans tx n p no_plans (λ q. ne (sym q)) in
          omega (arith, ap (λ (q : Plans). q.number) k, bit_other tx n ne))
    ]

-- whole histories

pub record Counted (s : State) : Type 0 where
  pub fits : (n : ℕ) → all_of n s ≤ (plans_of s n).number
  pub few : (n : ℕ) → (plans_of s n).number ≤ 2 ^ 32 - 1

kept : (s s' : State) → ((n : ℕ) → all_of n s' ≤ all_of n s) → s'.plans ≡ s.plans → Counted s → Counted s'
kept s s' less same h = record {
  fits = λ n. omega (arith, less n, h.fits n, ap (λ (l : List Plans). (get_or l n no_plans).number) same);
  few = λ n. omega (arith, h.few n, ap (λ (l : List Plans). (get_or l n no_plans).number) same);
}

plan_counts : (set : Set) (s : State) (tx tick : ℕ) (b : Bool) (e : Entry) → may_plan set s tx tick ≡ b → length s.plans ≡ length set.txns → Counted s → Counted (state_given s (given b (e, with_plan s tx tick)))
plan_counts set s tx tick true e may size h =
    let m = may_plan_is set s tx tick may in
    let lt : tx < length s.plans = omega (arith, m.in_set, size) in
    record {
      fits = λ n. omega (arith, plan_fits n tx tick s, plan_number n tx tick s lt, h.fits n);
      few = λ n. elim (cases_eq tx n) [
        | inl is ↦ omega (arith, plan_number n tx tick s lt, bit_same tx n is, m.few, ap (λ (k : ℕ). (plans_of s k).number) is)
        | inr ne ↦ omega (arith, plan_number n tx tick s lt, bit_other tx n ne, h.few n)
      ];
    }
plan_counts set s tx tick false e may size h = h

step_counts : (set : Set) (refused : JobId → Bool) (s : State) (event : Event) → IsCompiled set → Sound set refused (s.now + 1) s → Counted s → Counted (state_given s (step set s event))
unfolding step
step_counts set refused s (plan tx tick) ok sound h = plan_counts set s tx tick (may_plan set s tx tick) (Planned (record { 0 = tx }) tick) refl sound.calendar.plans_count h
step_counts set refused s (ask job op) ok sound h =
    let here = λ (x : Row) (e : running set s.rows ≡ Some x). (running_is set s.rows refused x (named_from set s.rows ok sound.frame) sound.protocol e).here in
    kept s (state_given s (option_and_then (asked set s op) (option_and_then (of_job job) (running set s.rows)))) (λ n. ask_fits set n s job op (running set s.rows) sound.frame here)
    (asked_plans set s op (option_and_then (of_job job) (running set s.rows))) h
step_counts set refused s idle ok sound h =
    kept s (state_given s (idled set s (pending s.rows))) (λ n. idle_fits set n s (pending s.rows) (next_tick s.planned) refl sound.frame) (idled_plans set s (pending s.rows) (next_tick s.planned) refl) h

history_counts : (set : Set) (refused : JobId → Bool) (s : State) (entries : List Entry) → IsCompiled set → Sound set refused (s.now + 1) s → Counted s → IsLegalFrom set s entries → Counted (states_after set s entries)
history_counts set refused s [] ok sound h legal = h
history_counts set refused s (e ∷ es) ok sound h legal =
    history_counts set (refused_after refused e) (state_after set s e) es ok
    (entry_goes set refused s e (step set s (event_of e)) (step_goes set ok refused s sound (event_of e)) legal.0).0 (step_counts set refused s (event_of e) ok sound h) legal.1

nobody : {A : Type 0} (xs : List A) (n : ℕ) → held (row_of (map (λ t. None) xs) n) ≡ 0
nobody [] n = refl
nobody (x ∷ xs) zero = refl
nobody (x ∷ xs) (suc n) = nobody xs n

nothing : {A : Type 0} (xs : List A) (n : ℕ) → (get_or (map (λ t. no_plans) xs) n no_plans).number ≡ 0
nothing [] n = refl
nothing (x ∷ xs) zero = refl
nothing (x ∷ xs) (suc n) = nothing xs n

opening_counts : (set : Set) → Counted (opening set)
unfolding opening
opening_counts set = record {
  fits = λ n. omega (arith, nobody set.txns n);
  few = λ n. omega (arith, nothing set.txns n);
}

pub ended_few : (set : Set) (history : List Entry) (n : ℕ) → IsCompiled set → IsLegal set history → ended_number (state_of set history).ended n < 2 ^ 32
ended_few set history n ok legal =
    let c = history_counts set (λ _. false) (opening set) history ok (opening_sound set) (opening_counts set) legal in
    omega (arith, c.fits n, c.few n)
