-- Histories in parts, and the rows of their jobs.
use Rattle.std.proofs.Common.{◌≡◌, ◌⊎◌, ℕ, zero, suc, ◌+◌, ◌<◌, ◌≤◌, Bool, true, false, cond, List, [], ◌∷◌, ◌++◌, map, Option, None, Some, refl, ap, sym, ◌∙◌, subst, inl, inr, arith}
use Rattle.std.proofs.lemmas.Bool.{cases_lt, eq-eqb, and_from, le-leb}
use Rattle.std.specs.Prelude.{nat_lt}
use Rattle.rt_base.specs.declared.ids.JobId.{JobId}
use Rattle.txn_set.specs.Set.{Set, IsCompiled}
use Rattle.step_journal.specs.State.{State, Row, pending, row_of, same_job, opening, prio}
use Rattle.step_journal.specs.declared.entry.Entry.{Entry}
use Rattle.step_journal.specs.declared.entry.EndedJob.{EndedJob}
use Rattle.step_journal.specs.LockRule.{placed, in_falling_priority}
use Rattle.step_journal.specs.History.{state_after, states_after, state_of, IsLegalFrom, IsLegal}
use Rattle.law_histories.proofs.Members.{In, in_pending, pending_in}
use Rattle.law_histories.proofs.Invariant.{IsPending, same_job_is}
use Rattle.law_histories.proofs.Holding.{in_left, in_right, append_in, in_map, map_in}
use Rattle.law_histories.proofs.Calendar.{Frame, placed_in, sorted_in, in_sorted}
use Rattle.law_histories.proofs.Never.{legal_sound}
use Rattle.law_histories.proofs.Lists.{in_filter_map, filter_map_in}
use Rattle.law_histories.proofs.Serials.{AreRising}
use Rattle.law_histories.proofs.SerialAll.{legal_serial}
use Rattle.job_rows.specs.declared.row.JobRow.{JobRow}
use Rattle.job_rows.specs.Rows.{ended_row, pending_row, job_rows}
use Rattle.schedule_marks.specs.declared.part.Part.{Part}
use Rattle.schedule_marks.specs.Marks.{until, until_of, present_in, present}
use Rattle.law_texts.specs.Drawn.{GoesThroughEachTick}
use Rattle.law_texts.proofs.Lists.{AreApart, apart_append}

-- ---- histories in two parts

pub legal_rest : (set : Set) (s : State) (xs ys : List Entry) → IsLegalFrom set s (xs ++ ys) → IsLegalFrom set (states_after set s xs) ys
legal_rest set s [] ys h = h
legal_rest set s (x ∷ xs) ys h = legal_rest set (state_after set s x) xs ys h.1

-- the parts of entries about the one that goes through a tick, from a state on
pub record SplitAt (set : Set) (s : State) (es : List Entry) (tick : ℕ) : Type 0 where
  pub before : List Entry
  pub entry : Entry
  pub after : List Entry
  pub parts : es ≡ before ++ entry ∷ after
  pub since : (states_after set s before).now ≤ tick
  pub ends : tick < (states_after set s (before ++ entry ∷ [])).now

split_at : (set : Set) (s : State) (es : List Entry) (tick : ℕ) → s.now ≤ tick → tick < (states_after set s es).now → SplitAt set s es tick
split_at set s [] tick a b = absurd (omega (arith, a, b))
split_at set s (e ∷ es) tick a b = elim (cases_lt tick (state_after set s e).now) [
  | inl lt ↦ record { before = []; entry = e; after = es; parts = refl; since = a; ends = lt }
  | inr ge ↦ (let r = split_at set (state_after set s e) es tick ge b in
      record { before = e ∷ r.before; entry = r.entry; after = r.after; parts = ap (λ (l : List Entry). e ∷ l) r.parts; since = r.since; ends = r.ends })
]

opening_now : (set : Set) → (opening set).now ≡ 0
unfolding opening
opening_now set = refl

pub goes_through : GoesThroughEachTick
goes_through set part entries tick from to early =
    let r = split_at set (opening set) entries tick (omega (arith, opening_now set)) early in
    record { before = r.before; entry = r.entry; after = r.after; parts = r.parts; within = record { from = from; to = to; since = r.since; ends = r.ends } }

-- ---- until when a lock is drawn

pub until_above : (stop n : ℕ) (rows : List JobRow) (job : JobId) → ((r : JobRow) → In r rows → r.job ≡ job → n < until stop r) → (r : JobRow) × In r rows × (r.job ≡ job) → n < until_of stop rows job
until_above stop n [] job h r = absurd r.1
until_above stop n (q ∷ qs) job h r = at (until_above stop n qs job (λ r i e. h r (inr i) e)) (same_job q.job job) refl where
  at : ((r : JobRow) × In r qs × (r.job ≡ job) → n < until_of stop qs job) → (b : Bool) → same_job q.job job ≡ b → n < cond b (until stop q) (until_of stop qs job)
  at rec true e = h q (inl refl) (same_job_is q.job job e)
  at rec false e = elim r.1 [
    | inl is ↦ (let j : q.job ≡ job = ap (λ (k : JobRow). k.job) (sym is) ∙ r.2 in
        let yes : same_job q.job job ≡ true = ap (λ (k : JobId). same_job q.job k) (sym j) ∙ and_from _ _ (eq-eqb q.job.tx.0 q.job.tx.0 refl) (eq-eqb q.job.serial q.job.serial refl) in
        absurd cc)
    | inr later ↦ rec (r.0, later, r.2)
  ]

pub until_below : (stop n : ℕ) (rows : List JobRow) (job : JobId) → ((r : JobRow) → In r rows → r.job ≡ job → until stop r ≤ n) → until_of stop rows job ≤ n
until_below stop n [] job h = omega arith
until_below stop n (q ∷ qs) job h = at (until_below stop n qs job (λ r i e. h r (inr i) e)) (same_job q.job job) refl where
  at : until_of stop qs job ≤ n → (b : Bool) → same_job q.job job ≡ b → cond b (until stop q) (until_of stop qs job) ≤ n
  at rec true e = h q (inl refl) (same_job_is q.job job e)
  at rec false e = rec

-- a row that is present is one of the rows
present_is_at : (b : Bool) (r q : JobRow) → cond b (Some r) None ≡ Some q → q ≡ r
present_is_at true r q e = cc
present_is_at false r q e = absurd cc

pub is_present : (part : Part) (stop : ℕ) (rows : List JobRow) (r : JobRow) → In r (present part stop rows) → In r rows
is_present part stop rows r i =
    let f = filter_map_in (present_in part stop) r rows i in
    subst (λ (q : JobRow). In q rows) (sym (present_is_at _ f.0 r f.2)) f.1

pub comes_present : (part : Part) (stop : ℕ) (rows : List JobRow) (r : JobRow) → In r rows → r.release ≤ part.to → part.from ≤ until stop r → In r (present part stop rows)
comes_present part stop rows r i a b =
    in_filter_map (present_in part stop) r r rows i (ap (λ (c : Bool). cond c (Some r) None) (and_from _ _ (le-leb _ _ a) (le-leb _ _ b)))

-- the rows of a history are those of its ended jobs and of its pending ones
pub row_cases : (set : Set) (es : List Entry) (r : JobRow) → In r (job_rows set es)
    → ((d : EndedJob) × In d (state_of set es).ended × (r ≡ ended_row set es d)) ⊎ ((y : Row) × In y (pending (state_of set es).rows) × (r ≡ pending_row set es y))
row_cases set es r i =
    elim (append_in r (map (ended_row set es) (state_of set es).ended) (map (pending_row set es) (in_falling_priority set (pending (state_of set es).rows))) i) [
      | inl a ↦ inl (map_in (ended_row set es) r (state_of set es).ended a)
      | inr b ↦ (let m = map_in (pending_row set es) r (in_falling_priority set (pending (state_of set es).rows)) b in
          inr (m.0, sorted_in set m.0 (pending (state_of set es).rows) m.1, m.2))
    ]

pub ended_in_rows : (set : Set) (es : List Entry) (d : EndedJob) → In d (state_of set es).ended → In (ended_row set es d) (job_rows set es)
ended_in_rows set es d i = in_left _ _ (map (pending_row set es) (in_falling_priority set (pending (state_of set es).rows))) (in_map (ended_row set es) d (state_of set es).ended i)

pub pending_in_rows : (set : Set) (es : List Entry) (y : Row) → IsPending (state_of set es).rows y → In (pending_row set es y) (job_rows set es)
pending_in_rows set es y h =
    in_right _ (map (ended_row set es) (state_of set es).ended) _
    (in_map (pending_row set es) y _ (in_sorted set y (pending (state_of set es).rows) (in_pending (state_of set es).rows y.job.tx.0 y h)))

-- ---- the ended jobs

pub one_of_rising : (es : List EndedJob) (a b : EndedJob) → AreRising es → In a es → In b es → a.job ≡ b.job → a ≡ b
one_of_rising [] a b rising i j e = absurd i
one_of_rising (x ∷ xs) a b rising (inl i) (inl j) e = i ∙ sym j
one_of_rising (x ∷ xs) a b rising (inl i) (inr j) e =
    let k : x.job ≡ b.job = ap (λ (q : EndedJob). q.job) (sym i) ∙ e in
    let lt = rising.0 b j (ap (λ (q : JobId). q.tx.0) k) in
    absurd (let same : x.job.serial ≡ b.job.serial = ap (λ (q : JobId). q.serial) k in omega (arith, lt, same))
one_of_rising (x ∷ xs) a b rising (inr i) (inl j) e =
    let k : x.job ≡ a.job = ap (λ (q : EndedJob). q.job) (sym j) ∙ sym e in
    let lt = rising.0 a i (ap (λ (q : JobId). q.tx.0) k) in
    absurd (let same : x.job.serial ≡ a.job.serial = ap (λ (q : JobId). q.serial) k in omega (arith, lt, same))
one_of_rising (x ∷ xs) a b rising (inr i) (inr j) e = one_of_rising xs a b rising.1 i j e

-- ---- each job has one row

pub is_pending : (set : Set) (rows : List (Option Row)) (y : Row) → Frame set rows → In y (pending rows) → IsPending rows y
is_pending set rows y frame i = let at = pending_in rows y i in subst (λ (n : ℕ). row_of rows n ≡ Some y) (sym (frame.named at.0 y at.1)) at.1

rising_apart : (es : List EndedJob) → AreRising es → AreApart (map (λ (d : EndedJob). d.job) es)
rising_apart [] rising = tt
rising_apart (e ∷ es) rising = (
  λ i.
      let m = map_in (λ (d : EndedJob). d.job) e.job es i in
      let lt : e.job.serial < m.0.job.serial = rising.0 m.0 m.1 (ap (λ (k : JobId). k.tx.0) m.2) in
      let same : e.job.serial ≡ m.0.job.serial = ap (λ (k : JobId). k.serial) m.2 in
      omega (arith, lt, same),
  rising_apart es rising.1,
)

abbrev jobs : List Row → List JobId
jobs rows = map (λ (r : Row). r.job) rows

placed_jobs : (set : Set) (r : Row) (rs : List Row) (job : JobId) → In job (jobs (placed set r rs)) → (job ≡ r.job) ⊎ In job (jobs rs)
placed_jobs set r rs job i =
    let m = map_in (λ (q : Row). q.job) job (placed set r rs) i in
    elim (placed_in set r m.0 rs m.1) [
      | inl e ↦ inl (m.2 ∙ ap (λ (q : Row). q.job) e)
      | inr k ↦ inr (subst (λ (q : JobId). In q (jobs rs)) (sym m.2) (in_map (λ (q : Row). q.job) m.0 rs k))
    ]

placed_apart : (set : Set) (r : Row) (rs : List Row) → (In r.job (jobs rs) → ⊥) → AreApart (jobs rs) → AreApart (jobs (placed set r rs))
placed_apart set r [] new a = (λ i. i, tt)
placed_apart set r (x ∷ rs) new a = at (placed_apart set r rs (λ i. new (inr i)) a.1) (nat_lt (prio set x) (prio set r)) where
  at : AreApart (jobs (placed set r rs)) → (b : Bool) → AreApart (jobs (cond b (r ∷ x ∷ rs) (x ∷ placed set r rs)))
  at rest true = (new, a)
  at rest false = (λ i. elim (placed_jobs set r rs x.job i) [ inl e ↦ new (inl (sym e)) | inr k ↦ a.0 k ], rest)

sorted_jobs : (set : Set) (rs : List Row) (job : JobId) → In job (jobs (in_falling_priority set rs)) → In job (jobs rs)
sorted_jobs set rs job i =
    let m = map_in (λ (q : Row). q.job) job (in_falling_priority set rs) i in
    subst (λ (q : JobId). In q (jobs rs)) (sym m.2) (in_map (λ (q : Row). q.job) m.0 rs (sorted_in set m.0 rs m.1))

sorted_apart : (set : Set) (rs : List Row) → AreApart (jobs rs) → AreApart (jobs (in_falling_priority set rs))
sorted_apart set [] a = tt
sorted_apart set (r ∷ rs) a = placed_apart set r (in_falling_priority set rs) (λ i. a.0 (sorted_jobs set rs r.job i)) (sorted_apart set rs a.1)

-- rows that stand at the numbers of their transactions, from k on
pending_apart : (rows : List (Option Row)) (k : ℕ) → ((n : ℕ) (x : Row) → row_of rows n ≡ Some x → x.job.tx.0 ≡ k + n) → AreApart (jobs (pending rows))
pending_apart [] k named = tt
pending_apart (None ∷ rows) k named = pending_apart rows (k + 1) (λ n x h. let e : x.job.tx.0 ≡ k + suc n = named (suc n) x h in omega (arith, e))
pending_apart (Some r ∷ rows) k named = (
  λ i.
      let m = map_in (λ (q : Row). q.job) r.job (pending rows) i in
      let p = pending_in rows m.0 m.1 in
      let a : r.job.tx.0 ≡ k + zero = named zero r refl in
      let b : m.0.job.tx.0 ≡ k + suc p.0 = named (suc p.0) m.0 p.1 in
      let c : r.job.tx.0 ≡ m.0.job.tx.0 = ap (λ (q : JobId). q.tx.0) m.2 in
      omega (arith, a, b, c),
  pending_apart rows (k + 1) (λ n x h. let e : x.job.tx.0 ≡ k + suc n = named (suc n) x h in omega (arith, e)),
)

pending_names : (set : Set) (es : List Entry) (ys : List Row) → map (λ (r : JobRow). r.job) (map (pending_row set es) ys) ≡ jobs ys
pending_names set es [] = refl
pending_names set es (y ∷ ys) = ap (λ (l : List JobId). y.job ∷ l) (pending_names set es ys)

row_names : (set : Set) (es : List Entry) (ds : List EndedJob) (ys : List Row) → map (λ (r : JobRow). r.job) (map (ended_row set es) ds ++ map (pending_row set es) ys) ≡ map (λ (d : EndedJob). d.job) ds ++ jobs ys
row_names set es [] ys = pending_names set es ys
row_names set es (d ∷ ds) ys = ap (λ (l : List JobId). d.job ∷ l) (row_names set es ds ys)

pub rows_apart : (set : Set) (es : List Entry) → IsCompiled set → IsLegal set es → AreApart (map (λ (r : JobRow). r.job) (job_rows set es))
rows_apart set es ok legal =
    let s = state_of set es in
    let frame = (legal_sound set es ok legal).frame in
    let serial = legal_serial set es ok legal in
    let ended : AreApart (map (λ (d : EndedJob). d.job) s.ended) = rising_apart s.ended serial.rising in
    let pends : AreApart (jobs (pending s.rows)) = pending_apart s.rows 0 (λ n x h. let e : x.job.tx.0 ≡ n = frame.named n x h in omega (arith, e)) in
    let other : (job : JobId) → In job (map (λ (d : EndedJob). d.job) s.ended) → In job (jobs (in_falling_priority set (pending s.rows))) → ⊥ = λ job i k.
    let d = map_in (λ (q : EndedJob). q.job) job s.ended i in
    let y = map_in (λ (q : Row). q.job) job (pending s.rows) (sorted_jobs set (pending s.rows) job k) in
    let here = is_pending set s.rows y.0 frame y.1 in
    let same : d.0.job ≡ y.0.job = sym d.2 ∙ y.2 in
    let lt : d.0.job.serial < y.0.job.serial = serial.done_row d.0 y.0 d.1 here (ap (λ (q : JobId). q.tx.0) same) in
    let e : d.0.job.serial ≡ y.0.job.serial = ap (λ (q : JobId). q.serial) same in
    omega (arith, lt, e) in
    subst (λ (l : List JobId). AreApart l) (sym (row_names set es s.ended (in_falling_priority set (pending s.rows))))
    (apart_append (map (λ (d : EndedJob). d.job) s.ended) (jobs (in_falling_priority set (pending s.rows))) ended (sorted_apart set (pending s.rows) pends) other)
