-- The events of a tick on the tables are the definition's.
use Rattle.std.proofs.Common.{◌≡◌, ◌≢◌, ℕ, zero, suc, ◌+◌, ◌^◌, ◌<◌, ◌≤◌, ◌==◌, Bool, true, false, cond, List, [], ◌∷◌, ◌++◌, map, length, Option, None, Some, set as with_item, refl, ap, sym, ◌∙◌, subst, inl, inr, arith, length-append, get_or-set_same, get_or-set_other}
use Rattle.std.proofs.lemmas.Bool.{cases_lt, cases_eq, eq-eqb, ne_eqb}
use Rattle.std.proofs.Math.ListN.{get_or-map}
use Rattle.std.proofs.lemmas.List.{get_or_past, length-set, length-map, append-nil}
use Rattle.std.specs.List.{filter, fold}
use Rattle.std.specs.Option.{option_map}
use Rattle.rt_base.specs.declared.ids.JobId.{JobId}
use Rattle.rt_base.specs.declared.operation.End.{End}
use Rattle.rt_base.specs.declared.operation.End.TheVariants as end
use Rattle.rt_base.specs.declared.release.Release.{Release}
use Rattle.release_calendar.specs.Agenda.{Agenda, Holds, SamePlans}
use Rattle.txn_set.specs.Set.{Set}
use Rattle.step_journal.specs.declared.entry.EndedJob.{EndedJob}
use Rattle.step_journal.specs.State.{State, Row, row_of, pending}
use Rattle.step_journal.specs.LockRule.{in_falling_priority}
use Rattle.step_journal.specs.Instant.{freed, is_due, with_row, with_end, with_late, with_cancellations, with_releases, arrived}
use Rattle.law_histories.proofs.Members.{In, in_filter, in_pending}
use Rattle.law_histories.proofs.Calendar.{Frame, in_sorted, row_none}
use Rattle.board.specs.Answers.{ended_jobs, ended_number}
use Rattle.core_tables.specs.Rows.{PendingSeen, AreFactsOf}
use Rattle.core_tables.specs.declared.tally.Tally.{Tally}
use Rattle.core_tables.specs.Seen.{TablesSeen, no_tally, tally_of, tallies_after, counted}
use Rattle.core_tables.specs.Tables.{AreTables, AreTallies}
use Rattle.core_tables.specs.Changes.{rows_without, late_jobs, rows_cancelled, tallies_cancelled, tally_late, due_jobs, later}
use Rattle.core_tables.specs.Arriving.{CanArrive, CanCancel, CanRelease}

-- one more ended job

last_at : (l : List EndedJob) (x : Option End) (e : EndedJob) → fold (λ o q. Some q.end) x (l ++ e ∷ []) ≡ Some e.end
last_at [] x e = refl
last_at (y ∷ l) x e = last_at l (Some y.end) e

jobs_at : (x : EndedJob) (xs bs cs : List EndedJob) (b : Bool) → xs ≡ bs ++ cs → cond b (x ∷ xs) xs ≡ cond b (x ∷ bs) bs ++ cs
jobs_at x xs bs cs true h = ap (λ (l : List EndedJob). x ∷ l) h
jobs_at x xs bs cs false h = h

jobs_more : (ended : List EndedJob) (e : EndedJob) (tx : ℕ) → ended_jobs (ended ++ e ∷ []) tx ≡ ended_jobs ended tx ++ cond (e.job.tx.0 == tx) (e ∷ []) []
jobs_more [] e tx = refl
jobs_more (x ∷ xs) e tx = jobs_at x (ended_jobs (xs ++ e ∷ []) tx) (ended_jobs xs tx) (cond (e.job.tx.0 == tx) (e ∷ []) []) (x.job.tx.0 == tx) (jobs_more xs e tx)

-- what a tally says of the ended jobs of a transaction
abbrev told : List EndedJob → Tally
told jobs = record { number = length jobs; last = fold (λ o q. Some q.end) None jobs }

told_more : (jobs : List EndedJob) (e : EndedJob) → told (jobs ++ e ∷ []) ≡ counted (told jobs) e.end
told_more jobs e =
    ap (λ (n : ℕ). record { number = n; last = fold (λ o q. Some q.end) None (jobs ++ e ∷ []) }) (length-append jobs (e ∷ []))
    ∙ ap (λ (o : Option End). record { number = length jobs + 1; last = o }) (last_at jobs None e)

pub one_ended : (set : Set) (tallies : List Tally) (ended : List EndedJob) (e : EndedJob) → AreTallies set tallies ended → AreTallies set (tallies_after tallies e.job.tx.0 e.end) (ended ++ e ∷ [])
one_ended set tallies ended e are = record {
  count = length-set tallies e.job.tx.0 (counted (tally_of tallies e.job.tx.0) e.end) ∙ are.count;
  each = λ tx lt. elim (cases_eq e.job.tx.0 tx) [
    | inl same ↦ (let here : e.job.tx.0 < length tallies = omega (arith, same, lt, are.count) in
        subst (λ (k : ℕ). tally_of (tallies_after tallies e.job.tx.0 e.end) k ≡ told (ended_jobs (ended ++ e ∷ []) k)) same
        (get_or-set_same tallies e.job.tx.0 (counted (tally_of tallies e.job.tx.0) e.end) no_tally here
        ∙ (ap (λ (t : Tally). counted t e.end) (are.each e.job.tx.0 (omega (arith, same, lt)))
        ∙ (sym (told_more (ended_jobs ended e.job.tx.0) e)
        ∙ (ap (λ (b : Bool). told (ended_jobs ended e.job.tx.0 ++ cond b (e ∷ []) [])) (sym (eq-eqb e.job.tx.0 e.job.tx.0 refl))
        ∙ ap told (sym (jobs_more ended e e.job.tx.0)))))))
    | inr other ↦ get_or-set_other tallies e.job.tx.0 tx (counted (tally_of tallies e.job.tx.0) e.end) no_tally (λ k. other (sym k))
        ∙ (are.each tx lt
        ∙ (ap told (sym (append-nil (ended_jobs ended tx)))
        ∙ (ap (λ (b : Bool). told (ended_jobs ended tx ++ cond b (e ∷ []) [])) (sym (ne_eqb e.job.tx.0 tx other))
        ∙ ap told (sym (jobs_more ended e tx)))))
  ];
}

-- the cancellations

abbrev jobs_of : List Row → List JobId
jobs_of l = map (λ (r : Row). r.job) l

pub record Ended (set : Set) (tick : ℕ) (l : List Row) (tallies : List Tally) (s : State) : Type 0 where
  pub now : (fold (with_late tick) s l).now ≡ s.now
  pub items : (fold (with_late tick) s l).items ≡ s.items
  pub plans : (fold (with_late tick) s l).plans ≡ s.plans
  pub planned : (fold (with_late tick) s l).planned ≡ s.planned
  pub rows : (fold (with_late tick) s l).rows ≡ fold rows_without s.rows (jobs_of l)
  pub tallies_are : AreTallies set (fold tally_late tallies (jobs_of l)) (fold (with_late tick) s l).ended

late_ended : (set : Set) (tick : ℕ) (r : Row) (tallies : List Tally) (s : State) → AreTallies set tallies s.ended → AreTallies set (tally_late tallies r.job) (with_late tick s r).ended
unfolding with_end
late_ended set tick r tallies s are = one_ended set tallies s.ended (record { job = r.job; release = r.release; end = end.Late; tick = tick }) are

late_rest : (tick : ℕ) (r : Row) (s : State)
    → ((with_late tick s r).now ≡ s.now) × ((with_late tick s r).items ≡ s.items) × ((with_late tick s r).plans ≡ s.plans) × ((with_late tick s r).planned ≡ s.planned) × ((with_late tick s r).rows ≡ rows_without s.rows r.job)
unfolding with_end
late_rest tick r s = (refl, refl, refl, refl, refl)

lates : (set : Set) (tick : ℕ) (l : List Row) (tallies : List Tally) (s : State) → AreTallies set tallies s.ended → Ended set tick l tallies s
lates set tick [] tallies s are = record { now = refl; items = refl; plans = refl; planned = refl; rows = refl; tallies_are = are }
lates set tick (r ∷ rs) tallies s are =
    let rest = lates set tick rs (tally_late tallies r.job) (with_late tick s r) (late_ended set tick r tallies s are) in
    let one = late_rest tick r s in
    record {
      now = rest.now ∙ one.0;
      items = rest.items ∙ one.1;
      plans = rest.plans ∙ one.2;
      planned = rest.planned ∙ one.3;
      rows = rest.rows ∙ ap (λ (rows : List (Option Row)). fold rows_without rows (jobs_of rs)) one.4;
      tallies_are = rest.tallies_are;
    }

pub cancelled_tables : (set : Set) (tick : ℕ) (t : TablesSeen) (s : State) → AreTables set t s
    → AreTables set (record t { pending = record t.pending { rows = rows_cancelled set tick t.pending.rows }; tallies = tallies_cancelled set tick t.pending.rows t.tallies }) (with_cancellations set tick s)
unfolding with_cancellations
cancelled_tables set tick t s a =
    let l : List Row = in_falling_priority set (filter (is_due set tick) (pending s.rows)) in
    let e = lates set tick l t.tallies s a.tallies in
    record {
      now = a.now ∙ sym e.now;
      items = a.items ∙ sym e.items;
      periods = a.periods;
      room = a.room;
      plans = a.plans ∙ sym e.plans;
      planned = subst (Holds t.calendar) (sym e.planned) a.planned;
      rows = record { facts = a.rows.facts; rows = ap (rows_cancelled set tick) a.rows.rows ∙ sym e.rows };
      tallies = subst (λ (rows : List (Option Row)). AreTallies set (tallies_cancelled set tick rows t.tallies) (fold (with_late tick) s l).ended) (sym a.rows.rows) e.tallies_are;
    }

-- the releases

pub released_tables : (set : Set) (tick : ℕ) (t : TablesSeen) (s : State) (pending : PendingSeen) (calendar : Agenda) → AreTables set t s → pending.facts ≡ t.pending.facts → pending.rows ≡ fold (with_row tick) t.pending.rows (due_jobs tick s.planned)
    → Holds calendar (later tick s.planned) → SamePlans t.calendar calendar → AreTables set (record t { calendar = calendar; pending = pending }) (with_releases tick s)
unfolding with_releases
released_tables set tick t s pending calendar a facts rows holds same = record {
  now = a.now;
  items = a.items;
  periods = same.periods ∙ a.periods;
  room = same.room ∙ a.room;
  plans = same.plans ∙ a.plans;
  planned = holds;
  rows = record {
    facts = subst (AreFactsOf set) (sym facts) a.rows.facts;
    rows = rows ∙ ap (λ (l : List (Option Row)). fold (with_row tick) l (due_jobs tick s.planned)) a.rows.rows;
  };
  tallies = a.tallies;
}

-- who may be released

pub record Was (rows : List (Option Row)) (n : ℕ) : Type 0 where
  pub was : Row
  pub here : row_of rows n ≡ Some was

gone_at : (rows : List (Option Row)) (n : ℕ) (x : Row) → row_of (with_item rows n None) n ≡ Some x → ⊥
gone_at [] n x h = cc
gone_at (r ∷ rs) zero x h = cc
gone_at (r ∷ rs) (suc n) x h = gone_at rs n x h

some_of : (job : JobId) (o : Option Row) (x : Row) → option_map (freed job) o ≡ Some x → (r : Row) × (o ≡ Some r)
some_of job None x h = absurd cc
some_of job (Some r) x h = (r, refl)

one_left : (rows : List (Option Row)) (job : JobId) (n : ℕ) (x : Row) → row_of (rows_without rows job) n ≡ Some x → (job.tx.0 ≢ n) × Was rows n
one_left rows job n x h =
    let r = some_of job (row_of (with_item rows job.tx.0 None) n) x (sym (get_or-map (option_map (freed job)) (with_item rows job.tx.0 None) n None) ∙ h) in
    elim (cases_eq n job.tx.0) [
      | inl e ↦ absurd (gone_at rows job.tx.0 r.0 (subst (λ (k : ℕ). row_of (with_item rows job.tx.0 None) k ≡ Some r.0) e r.1))
      | inr ne ↦ (λ k. ne (sym k), record { was = r.0; here = sym (get_or-set_other rows job.tx.0 n None None ne) ∙ r.1 })
    ]

all_left : (rows : List (Option Row)) (jobs : List JobId) (n : ℕ) (x : Row) → row_of (fold rows_without rows jobs) n ≡ Some x → ((j : JobId) → In j jobs → j.tx.0 ≢ n) × Was rows n
all_left rows [] n x h = (λ j i. absurd i, record { was = x; here = h })
all_left rows (job ∷ jobs) n x h =
    let rest = all_left (rows_without rows job) jobs n x h in
    let one = one_left rows job n rest.1.was rest.1.here in
    (λ j i. elim i [ inl e ↦ (λ same. one.0 (sym (ap (λ (k : JobId). k.tx.0) e) ∙ same)) | inr more ↦ rest.0 j more ], record { was = one.1.was; here = one.1.here })

without_many : (rows : List (Option Row)) (jobs : List JobId) → length (fold rows_without rows jobs) ≡ length rows
without_many rows [] = refl
without_many rows (job ∷ jobs) =
    without_many (rows_without rows job) jobs ∙ (length-map (with_item rows job.tx.0 None) (option_map (freed job)) ∙ length-set rows job.tx.0 None)

in_jobs : (r : Row) (l : List Row) → In r l → In r.job (jobs_of l)
in_jobs r [] i = absurd i
in_jobs r (x ∷ xs) (inl e) = inl (ap (λ (q : Row). q.job) e)
in_jobs r (x ∷ xs) (inr i) = inr (in_jobs r xs i)

pub can_release : (set : Set) (tick : ℕ) (s : State) → CanArrive set tick s → CanRelease tick (rows_cancelled set tick s.rows) s.planned
can_release set tick s can = record {
  in_range = λ r i at. omega (arith, can.in_set r i, can.frame.count, without_many s.rows (late_jobs set tick s.rows));
  free = λ r i at. row_none (rows_cancelled set tick s.rows) r.job.tx.0 (row_of (rows_cancelled set tick s.rows) r.job.tx.0) refl (λ x h.
      let left = all_left s.rows (late_jobs set tick s.rows) r.job.tx.0 x h in
      let was : Row = left.1.was in
      let due : is_due set tick was ≡ true = can.over r was i at left.1.here in
      let late : In was (in_falling_priority set (filter (is_due set tick) (pending s.rows))) =
      in_sorted set was (filter (is_due set tick) (pending s.rows)) (in_filter (is_due set tick) was (pending s.rows) (in_pending s.rows r.job.tx.0 was left.1.here) due) in
      left.0 was.job (in_jobs was (in_falling_priority set (filter (is_due set tick) (pending s.rows))) late) (can.frame.named r.job.tx.0 was left.1.here));
  apart = can.apart;
}

-- who may be cancelled

pending_many : (rows : List (Option Row)) → length (pending rows) ≤ length rows
pending_many [] = omega arith
pending_many (None ∷ rows) = omega (arith, pending_many rows)
pending_many (Some r ∷ rows) = omega (arith, pending_many rows)

pub tallies_few : (set : Set) (tallies : List Tally) (ended : List EndedJob) (n : ℕ) → AreTallies set tallies ended → ended_number ended n < 2 ^ 33 → (tally_of tallies n).number < 2 ^ 33
tallies_few set tallies ended n are few =
    elim (cases_lt n (length set.txns)) [
      | inl lt ↦ omega (arith, few, ap (λ (t : Tally). t.number) (are.each n lt))
      | inr ge ↦ omega (arith, ap (λ (t : Tally). t.number) (get_or_past tallies n no_tally (omega (arith, ge, are.count))))
    ]

pub can_cancel : (set : Set) (tick : ℕ) (t : TablesSeen) (s : State) → AreTables set t s → CanArrive set tick s → CanCancel set t.pending.rows t.tallies
can_cancel set tick t s a can =
    let count : length t.pending.rows ≡ length set.txns = ap (λ (l : List (Option Row)). length l) a.rows.rows ∙ can.frame.count in
    record {
      frame = subst (Frame set) (sym a.rows.rows) can.frame;
      count = a.tallies.count;
      few = λ n. omega (arith, tallies_few set t.tallies s.ended n a.tallies (can.few n), pending_many t.pending.rows, count, a.rows.facts.compiled.few_txns);
    }

-- the tables at another tick

pub at_clock : (set : Set) (tick : ℕ) (t : TablesSeen) (s : State) → AreTables set t s → AreTables set (record t { clock = tick }) (record s { now = tick })
at_clock set tick t s a = record {
  now = refl;
  items = a.items;
  periods = a.periods;
  room = a.room;
  plans = a.plans;
  planned = a.planned;
  rows = a.rows;
  tallies = a.tallies;
}

cancel_planned : (set : Set) (tick : ℕ) (s : State) (tallies : List Tally) → AreTallies set tallies s.ended → (with_cancellations set tick s).planned ≡ s.planned
unfolding with_cancellations
cancel_planned set tick s tallies are = (lates set tick (in_falling_priority set (filter (is_due set tick) (pending s.rows))) tallies s are).planned

-- the events, one after the other
module _ (set : Set) (tick : ℕ) (t : TablesSeen) (s : State) (a : AreTables set t s) (can : CanArrive set tick s) where
  pub arrive_cancels : (tallies : List Tally) → tallies ≡ t.tallies → CanCancel set t.pending.rows tallies
  arrive_cancels tallies e = subst (CanCancel set t.pending.rows) (sym e) (can_cancel set tick t s a can)

  pub arrive_releases : (pending : PendingSeen) → pending ≡ record t.pending { rows = rows_cancelled set tick t.pending.rows } → CanRelease tick pending.rows s.planned
  arrive_releases pending e =
      subst (λ (rows : List (Option Row)). CanRelease tick rows s.planned)
      (ap (rows_cancelled set tick) (sym a.rows.rows) ∙ ap (λ (p : PendingSeen). p.rows) (sym e)) (can_release set tick s can)

  pub arrives : (cancelled released : PendingSeen) (old_tallies tallies : List Tally) (calendar : Agenda) → old_tallies ≡ t.tallies → cancelled ≡ record t.pending { rows = rows_cancelled set tick t.pending.rows } → tallies ≡ tallies_cancelled set tick t.pending.rows old_tallies
      → released.facts ≡ cancelled.facts → released.rows ≡ fold (with_row tick) cancelled.rows (due_jobs tick s.planned) → Holds calendar (later tick s.planned) → SamePlans t.calendar calendar
      → AreTables set (record { clock = tick; items = t.items; calendar = calendar; pending = released; tallies = tallies }) (arrived set tick s)
  unfolding arrived
  arrives cancelled released old_tallies tallies calendar eo ec et facts rows holds same =
      let s1 : State = record s { now = tick } in
      let s2 : State = with_cancellations set tick s1 in
      let t2 : TablesSeen = record t { clock = tick; pending = record t.pending { rows = rows_cancelled set tick t.pending.rows }; tallies = tallies_cancelled set tick t.pending.rows t.tallies } in
      let after : AreTables set t2 s2 = cancelled_tables set tick (record t { clock = tick }) s1 (at_clock set tick t s a) in
      let planned : s2.planned ≡ s.planned = cancel_planned set tick s1 t.tallies a.tallies in
      let is : AreTables set (record t2 { calendar = calendar; pending = released }) (with_releases tick s2) =
      released_tables set tick t2 s2 released calendar after
      (facts ∙ ap (λ (p : PendingSeen). p.facts) ec)
      (rows ∙ (ap (λ (p : PendingSeen). fold (with_row tick) p.rows (due_jobs tick s.planned)) ec ∙ ap (λ (l : List Release). fold (with_row tick) t2.pending.rows (due_jobs tick l)) (sym planned)))
      (subst (λ (l : List Release). Holds calendar (later tick l)) (sym planned) holds) same in
      subst (λ (l : List Tally). AreTables set (record { clock = tick; items = t.items; calendar = calendar; pending = released; tallies = l }) (with_releases tick s2)) (sym (et ∙ ap (tallies_cancelled set tick t.pending.rows) eo)) is
