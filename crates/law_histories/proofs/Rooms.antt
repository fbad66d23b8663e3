-- Two sums that no event lets grow past their bound: the entries so far with what the pending and the planned jobs
-- may still add, at most the room of the planned jobs; and the entries with the refusals left, at most the time and
-- two for each plan.
use Rattle.std.proofs.Common.{◌≡◌, ◌≢◌, ℕ, zero, suc, ◌+◌, ◌-◌, ◌*◌, ◌^◌, ◌<◌, ◌≤◌, ◌==◌, Bool, true, false, cond, ◌&&◌, max, List, [], ◌∷◌, ◌++◌, length, Option, None, Some, get_or, set as with_item, refl, ap, sym, ◌∙◌, subst, inl, inr, arith, get_or-set_same, get_or-set_other, length-append, add-mul, one-mul}
use Rattle.std.proofs.lemmas.Bool.{cases_eq, eq-eqb, ne_eqb, leb-true, and_from, and_parts, or_left, or_right}
use Rattle.std.specs.Prelude.{nat_lt, nat_le}
use Rattle.std.specs.List.{filter}
use Rattle.rt_base.specs.declared.ids.JobId.{JobId}
use Rattle.rt_base.specs.declared.operation.Op.{Op}
use Rattle.rt_base.specs.declared.operation.End.{End}
use Rattle.step_journal.specs.declared.entry.Entry.{Entry}
use Rattle.step_journal.specs.declared.entry.Entry.TheVariants.{Planned}
use Rattle.txn_set.specs.Set.{Set, txn_of, IsCompiled}
use Rattle.step_journal.specs.State.{State, Row, row_of, new_row}
use Rattle.rt_base.specs.declared.release.Plans.{Plans}
use Rattle.rt_base.specs.declared.release.Release.{Release}
use Rattle.step_journal.specs.Instant.{with_row, with_end, arrived}
use Rattle.step_journal.specs.Step.{plans_of, earliest, may_plan, next_job, with_plan, row_after, settled, with_wait}
use Rattle.law_histories.proofs.Members.{In, in_filter}
use Rattle.law_histories.proofs.Invariant.{IsPending, in_range}
use Rattle.law_histories.proofs.Events.{refused_too}
use Rattle.law_histories.proofs.Calendar.{Sound}
use Rattle.law_histories.proofs.Histories.{MayPlan}
use Rattle.law_histories.specs.Counting.{room_in, planned_room, plans_in, plan_count, tick_in, greatest_planned, greatest_period}
use Rattle.law_histories.proofs.Sums.{sum_below, sum_moved, sum_of}
use Rattle.law_histories.proofs.Totals.{steps_of, sum_append, IsWeight, total, total_written, total_ended, total_left, total_less, arrived_total, arrived_plans}

-- one more entry

pub room_more : (set : Set) (es : List Entry) (e : Entry) → planned_room set (es ++ e ∷ []) ≡ planned_room set es + room_in set e
room_more set [] e = omega arith
room_more set (x ∷ es) e = omega (arith, room_more set es e)

pub count_more : (es : List Entry) (e : Entry) (n : ℕ) → plan_count (es ++ e ∷ []) n ≡ plan_count es n + plans_in n e
count_more [] e n = omega arith
count_more (x ∷ es) e n = omega (arith, count_more es e n)

pub planned_more : (es : List Entry) (e : Entry) → greatest_planned (es ++ e ∷ []) ≡ max (greatest_planned es) (tick_in e)
planned_more [] e = omega arith
planned_more (x ∷ es) e = omega (arith, planned_more es e)

longer : (es : List Entry) (e : Entry) → length (es ++ e ∷ []) ≡ length es + 1
longer es e = length-append es (e ∷ [])

-- weights: what a pending job may still add to the history, and whether it may still be refused

abbrev pub unrefused : (JobId → Bool) → Row → ℕ
unrefused refused x = cond (refused x.job) 0 1

abbrev pub entries_left : Set → (JobId → Bool) → Option Row → ℕ
entries_left set refused None = 0
entries_left set refused (Some x) = (steps_of set x - x.used) + unrefused refused x

abbrev pub refusals_left : (JobId → Bool) → Option Row → ℕ
refusals_left refused None = 0
refusals_left refused (Some x) = unrefused refused x

abbrev pub planned_left : Set → Release → ℕ
planned_left set q = (txn_of set q.job.tx.0).steps + 2

abbrev pub released_left : Set → Release → ℕ
released_left set q = (txn_of set q.job.tx.0).steps + 1

abbrev pub one : Release → ℕ
one q = 1

left_weight : (set : Set) (refused : JobId → Bool) → IsWeight (entries_left set refused)
left_weight set refused = record { none = refl; freed = λ job x. refl }

refusals_weight : (refused : JobId → Bool) → IsWeight (refusals_left refused)
refusals_weight refused = record { none = refl; freed = λ job x. refl }

at_most_one : (b : Bool) → cond b 0 1 ≤ 1
at_most_one true = omega arith
at_most_one false = omega arith

pub record Rooms (set : Set) (refused : JobId → Bool) (es : List Entry) (t : ℕ) (s : State) : Type 0 where
  pub room : length es + total set (entries_left set refused) s.rows + sum_of (planned_left set) s.planned ≤ planned_room set es
  pub pace : length es + total set (refusals_left refused) s.rows + sum_of one s.planned ≤ t + 2 * sum_below (λ n. (plans_of s n).number) (length set.txns)

-- the planned jobs, by transaction
pub record Plannings (set : Set) (es : List Entry) (plans : List Plans) : Type 0 where
  pub by_number : planned_room set es ≡ sum_below (λ n. plan_count es n * ((txn_of set n).steps + 3)) (length set.txns)
  pub count : (n : ℕ) → plan_count es n ≡ (get_or plans n (record { number = 0; last = 0 })).number
  pub last : (n : ℕ) → (get_or plans n (record { number = 0; last = 0 })).last ≤ greatest_planned es
  pub few : (n : ℕ) → (get_or plans n (record { number = 0; last = 0 })).number ≤ 2 ^ 32 - 1
  pub limit : greatest_planned es ≤ 2 ^ 40

pub record Counted (set : Set) (refused : JobId → Bool) (es : List Entry) (s : State) : Type 0 where
  pub rooms : Rooms set refused es s.now s
  pub plannings : Plannings set es s.plans
  pub now : s.now ≤ greatest_planned es + greatest_period set

-- an entry that is no plan
pub record IsNoPlan (set : Set) (e : Entry) : Type 0 where
  pub room : room_in set e ≡ 0
  pub count : (n : ℕ) → plans_in n e ≡ 0
  pub tick : tick_in e ≡ 0

pub no_plan_planned : (set : Set) (es : List Entry) (e : Entry) → IsNoPlan set e → greatest_planned (es ++ e ∷ []) ≡ greatest_planned es
no_plan_planned set es e no_plan = omega (arith, planned_more es e, no_plan.tick)

same_sum : (f g : ℕ → ℕ) (n : ℕ) → ((k : ℕ) → g k ≡ f k) → sum_below g n ≡ sum_below f n
same_sum f g zero h = refl
same_sum f g (suc n) h = omega (arith, same_sum f g n h, h n)

pub no_plan_same : (set : Set) (es : List Entry) (e : Entry) (plans : List Plans) → IsNoPlan set e → Plannings set es plans → Plannings set (es ++ e ∷ []) plans
no_plan_same set es e plans no_plan h =
    let count : (n : ℕ) → plan_count (es ++ e ∷ []) n ≡ plan_count es n = λ n. omega (arith, count_more es e n, no_plan.count n) in
    let top = no_plan_planned set es e no_plan in
    record {
      by_number = omega (arith, room_more set es e, no_plan.room, h.by_number, same_sum (λ n. plan_count es n * ((txn_of set n).steps + 3)) (λ n. plan_count (es ++ e ∷ []) n * ((txn_of set n).steps + 3)) (length set.txns) (λ n. ap (λ (c : ℕ). c * ((txn_of set n).steps + 3)) (count n)));
      count = λ n. count n ∙ h.count n;
      last = λ n. omega (arith, h.last n, top);
      few = h.few;
      limit = omega (arith, h.limit, top);
    }

-- to arrive at a tick

sum_at_most : (set : Set) (ds : List Release) → sum_of (released_left set) ds ≤ sum_of (planned_left set) ds
sum_at_most set [] = omega arith
sum_at_most set (d ∷ ds) = omega (arith, sum_at_most set ds)

sum_one_less : (set : Set) (q : Release) (ds : List Release) → In q ds → sum_of (released_left set) ds + 1 ≤ sum_of (planned_left set) ds
sum_one_less set q [] i = absurd i
sum_one_less set q (d ∷ ds) i = omega (arith, sum_at_most set ds)

new_left : (set : Set) (refused : JobId → Bool) (j : JobId) (t : ℕ) → entries_left set refused (Some (new_row j t)) ≤ (txn_of set j.tx.0).steps + 1
new_left set refused j t = omega (arith, at_most_one (refused j))

module _ (set : Set) (refused : JobId → Bool) (t : ℕ) (s : State) (ok : IsCompiled set) (sound : Sound set refused t s) where
  arrived_room : total set (entries_left set refused) (arrived set t s).rows + sum_of (planned_left set) (arrived set t s).planned + sum_of (planned_left set) (filter (λ q. q.tick == t) s.planned)
      ≤ total set (entries_left set refused) s.rows + sum_of (planned_left set) s.planned + sum_of (released_left set) (filter (λ q. q.tick == t) s.planned)
  arrived_room = arrived_total set refused t s ok sound (entries_left set refused) (released_left set) (planned_left set) (left_weight set refused) (λ d i. new_left set refused d.job t)

  arrived_pace : total set (refusals_left refused) (arrived set t s).rows + sum_of one (arrived set t s).planned ≤ total set (refusals_left refused) s.rows + sum_of one s.planned
  arrived_pace = let a = arrived_total set refused t s ok sound (refusals_left refused) one one (refusals_weight refused) (λ d i. at_most_one (refused d.job)) in omega (arith, a)

  same_numbers : sum_below (λ n. (plans_of (arrived set t s) n).number) (length set.txns) ≡ sum_below (λ n. (plans_of s n).number) (length set.txns)
  same_numbers = ap (λ (l : List Plans). sum_below (λ n. (get_or l n (record { number = 0; last = 0 })).number) (length set.txns)) (arrived_plans set refused t s ok sound)

  pub arrived_rooms : (es : List Entry) → Rooms set refused es t s → Rooms set refused es t (arrived set t s)
  arrived_rooms es h = record {
    room = omega (arith, h.room, arrived_room, sum_at_most set (filter (λ q. q.tick == t) s.planned));
    pace = omega (arith, h.pace, arrived_pace, same_numbers);
  }

  -- where some release is planned for the tick there is room for one entry more
  pub arrived_rooms_idle : (es : List Entry) (e : Entry) (from : ℕ) (q : Release) → In q s.planned → q.tick ≡ t → from < t → Rooms set refused es from s → IsNoPlan set e → Rooms set refused (es ++ e ∷ []) t (arrived set t s)
  arrived_rooms_idle es e from q i at later h no_plan =
      let due : In q (filter (λ q. q.tick == t) s.planned) = in_filter (λ (k : Release). k.tick == t) q s.planned i (eq-eqb _ _ at) in
      record {
        room = omega (arith, h.room, arrived_room, sum_one_less set q (filter (λ q. q.tick == t) s.planned) due, longer es e, room_more set es e, no_plan.room);
        pace = omega (arith, h.pace, arrived_pace, same_numbers, longer es e);
      }

  pub arrived_plannings : (es : List Entry) → Plannings set es s.plans → Plannings set es (arrived set t s).plans
  arrived_plannings es h = subst (Plannings set es) (sym (arrived_plans set refused t s ok sound)) h

-- the effect of a granted step

module _ (set : Set) (refused : JobId → Bool) (s : State) (x : Row) (op : Op) (es : List Entry) (e : Entry) (size : length s.rows ≡ length set.txns) (here : IsPending s.rows x) (short : x.used < steps_of set x) (no_plan : IsNoPlan set e) (h : Rooms set refused es s.now s) where
  in_rows : x.job.tx.0 < length s.rows
  in_rows = in_range s.rows _ x here

  pub settled_rooms : (o : Option End) → Rooms set refused (es ++ e ∷ []) (s.now + 1) (settled set (row_after s x op) (s.now + 1) o s)
  unfolding with_end
  settled_rooms None =
      let a = total_written set (entries_left set refused) s.rows x.job.tx.0 (row_after s x op) (omega (arith, in_rows, size)) in_rows in
      let b = total_written set (refusals_left refused) s.rows x.job.tx.0 (row_after s x op) (omega (arith, in_rows, size)) in_rows in
      record {
        room = omega (arith, h.room, a, ap (entries_left set refused) here, short, longer es e, room_more set es e, no_plan.room);
        pace = omega (arith, h.pace, b, ap (refusals_left refused) here, longer es e);
      }
  settled_rooms (Some end) =
      let a = total_ended set (entries_left set refused) s.rows x.job (left_weight set refused) (omega (arith, in_rows, size)) in
      let b = total_left set (refusals_left refused) s.rows x.job (refusals_weight refused) in
      record {
        room = omega (arith, h.room, a, ap (entries_left set refused) here, short, longer es e, room_more set es e, no_plan.room);
        pace = omega (arith, h.pace, b, longer es e);
      }

  pub settled_plans : (o : Option End) → (settled set (row_after s x op) (s.now + 1) o s).plans ≡ s.plans
  unfolding with_end
  settled_plans None = refl
  settled_plans (Some end) = refl

-- a refusal

too_true : (refused : JobId → Bool) (j : JobId) → refused_too refused j j ≡ true
too_true refused j = or_right _ _ (and_from _ _ (eq-eqb j.tx.0 j.tx.0 refl) (eq-eqb j.serial j.serial refl))

fewer_at : (a b : Bool) → (a ≡ true → b ≡ true) → cond b 0 1 ≤ cond a 0 1
fewer_at true true h = omega arith
fewer_at true false h = absurd (let t : false ≡ true = h refl in cc)
fewer_at false true h = omega arith
fewer_at false false h = omega arith

too_fewer : (refused : JobId → Bool) (j k : JobId) → cond (refused_too refused j k) 0 1 ≤ cond (refused k) 0 1
too_fewer refused j k = fewer_at (refused k) (refused_too refused j k) (λ h. or_left _ _ h)

fewer_entries : (set : Set) (refused : JobId → Bool) (j : JobId) (o : Option Row) → entries_left set (refused_too refused j) o ≤ entries_left set refused o
fewer_entries set refused j None = omega arith
fewer_entries set refused j (Some x) = omega (arith, too_fewer refused j x.job)

fewer_refusals : (refused : JobId → Bool) (j : JobId) (o : Option Row) → refusals_left (refused_too refused j) o ≤ refusals_left refused o
fewer_refusals refused j None = omega arith
fewer_refusals refused j (Some x) = too_fewer refused j x.job

pub wait_rooms : (set : Set) (refused : JobId → Bool) (s : State) (x : Row) (on : JobId) (es : List Entry) (e : Entry) → length s.rows ≡ length set.txns → IsPending s.rows x → refused x.job ≡ false → IsNoPlan set e → Rooms set refused es s.now s
    → Rooms set (refused_too refused x.job) (es ++ e ∷ []) s.now (with_wait s x on)
unfolding with_wait
wait_rooms set refused s x on es e size here first no_plan h =
    let lt : x.job.tx.0 < length s.rows = in_range s.rows _ x here in
    let at : row_of (with_item s.rows x.job.tx.0 (Some (record x { waits_on = Some on }))) x.job.tx.0 ≡ Some (record x { waits_on = Some on }) = get_or-set_same s.rows x.job.tx.0 (Some (record x { waits_on = Some on })) None lt in
    let u : unrefused refused x ≡ 1 = ap (λ (b : Bool). cond b 0 1) first in
    let v : unrefused (refused_too refused x.job) x ≡ 0 = ap (λ (b : Bool). cond b 0 1) (too_true refused x.job) in
    let a = total_less set (entries_left set refused) (entries_left set (refused_too refused x.job)) s.rows (with_item s.rows x.job.tx.0 (Some (record x { waits_on = Some on }))) x.job.tx.0 (omega (arith, lt, size))
    (λ k ne. omega (arith, ap (entries_left set (refused_too refused x.job)) (get_or-set_other s.rows x.job.tx.0 k (Some (record x { waits_on = Some on })) None ne), fewer_entries set refused x.job (row_of s.rows k)))
    (omega (arith, ap (entries_left set (refused_too refused x.job)) at, ap (entries_left set refused) here, u, v)) in
    let b = total_less set (refusals_left refused) (refusals_left (refused_too refused x.job)) s.rows (with_item s.rows x.job.tx.0 (Some (record x { waits_on = Some on }))) x.job.tx.0 (omega (arith, lt, size))
    (λ k ne. omega (arith, ap (refusals_left (refused_too refused x.job)) (get_or-set_other s.rows x.job.tx.0 k (Some (record x { waits_on = Some on })) None ne), fewer_refusals refused x.job (row_of s.rows k)))
    (omega (arith, ap (refusals_left (refused_too refused x.job)) at, ap (refusals_left refused) here, u, v)) in
    record {
      room = omega (arith, h.room, a, longer es e, room_more set es e, no_plan.room);
      pace = omega (arith, h.pace, b, longer es e);
    }

-- a plan

pub tick_limit : (set : Set) (s : State) (tx tick : ℕ) → may_plan set s tx tick ≡ true → tick ≤ 2 ^ 40
unfolding may_plan
tick_limit set s tx tick h =
    let a = and_parts (nat_lt tx (length set.txns) && nat_le s.now tick && nat_le tick (2 ^ 40) && nat_le (earliest set tx (plans_of s tx)) tick && nat_lt (length s.planned) 65536) (nat_lt (plans_of s tx).number (2 ^ 32 - 1)) h in
    let b = and_parts (nat_lt tx (length set.txns) && nat_le s.now tick && nat_le tick (2 ^ 40) && nat_le (earliest set tx (plans_of s tx)) tick) (nat_lt (length s.planned) 65536) a.0 in
    let c = and_parts (nat_lt tx (length set.txns) && nat_le s.now tick && nat_le tick (2 ^ 40)) (nat_le (earliest set tx (plans_of s tx)) tick) b.0 in
    let d = and_parts (nat_lt tx (length set.txns) && nat_le s.now tick) (nat_le tick (2 ^ 40)) c.0 in
    leb-true _ _ d.1

module _ (set : Set) (refused : JobId → Bool) (s : State) (n tick : ℕ) (es : List Entry) (sound : Sound set refused (s.now + 1) s) (may : MayPlan set s n tick) where
  noted : Plans
  noted = record { number = (plans_of s n).number + 1; last = tick }

  entry : Entry
  entry = Planned (record { 0 = n }) tick

  in_plans : n < length s.plans
  in_plans = omega (arith, may.in_set, sound.calendar.plans_count)

  here : get_or (with_item s.plans n noted) n (record { number = 0; last = 0 }) ≡ noted
  here = get_or-set_same s.plans n noted (record { number = 0; last = 0 }) in_plans

  there : (m : ℕ) → m ≢ n → get_or (with_item s.plans n noted) m (record { number = 0; last = 0 }) ≡ get_or s.plans m (record { number = 0; last = 0 })
  there m ne = get_or-set_other s.plans n m noted (record { number = 0; last = 0 }) ne

  -- the numbers of plans

  in_here : plans_in n (Planned (record { 0 = n }) tick) ≡ 1
  in_here = ap (λ (b : Bool). cond b 1 0) (eq-eqb n n refl)

  in_there : (m : ℕ) → m ≢ n → plans_in m (Planned (record { 0 = n }) tick) ≡ 0
  in_there m ne = ap (λ (b : Bool). cond b 1 0) (ne_eqb m n ne)

  number_more : sum_below (λ m. (get_or (with_item s.plans n noted) m (record { number = 0; last = 0 })).number) (length set.txns) ≡ sum_below (λ m. (plans_of s m).number) (length set.txns) + 1
  unfolding noted
  number_more =
      let m = sum_moved (λ m. (plans_of s m).number) (λ m. (get_or (with_item s.plans n noted) m (record { number = 0; last = 0 })).number) n (length set.txns) may.in_set (λ k ne. ap (λ (p : Plans). p.number) (there k ne)) in
      omega (arith, m, ap (λ (p : Plans). p.number) here)

  rooms_at : (b : Bool) → (tick == s.now) ≡ b → Rooms set refused es s.now s
      → Rooms set refused (es ++ entry ∷ []) s.now (record s { plans = with_item s.plans n noted; planned = cond b s.planned (s.planned ++ record { job = next_job s n; tick = tick } ∷ []); rows = cond b (with_row tick s.rows (next_job s n)) s.rows })
  unfolding entry noted
  rooms_at true e h =
      let in_rows : n < length s.rows = omega (arith, may.in_set, sound.frame.count) in
      let a = total_written set (entries_left set refused) s.rows n (new_row (next_job s n) tick) may.in_set in_rows in
      let b = total_written set (refusals_left refused) s.rows n (new_row (next_job s n) tick) may.in_set in_rows in
      record {
        room = omega (arith, h.room, a, new_left set refused (next_job s n) tick, longer es entry, room_more set es entry);
        pace = omega (arith, h.pace, b, at_most_one (refused (next_job s n)), longer es entry, number_more);
      }
  rooms_at false e h = record {
    room = omega (arith, h.room, sum_append (planned_left set) s.planned (record { job = next_job s n; tick = tick } ∷ []), longer es entry, room_more set es entry);
    pace = omega (arith, h.pace, sum_append one s.planned (record { job = next_job s n; tick = tick } ∷ []), longer es entry, number_more);
  }

  pub plan_rooms : Rooms set refused es s.now s → Rooms set refused (es ++ Planned (record { 0 = n }) tick ∷ []) s.now (with_plan s n tick)
  unfolding with_plan noted entry
  plan_rooms h = rooms_at (tick == s.now) refl h

  by_number_more : Plannings set es s.plans → planned_room set (es ++ entry ∷ []) ≡ sum_below (λ m. plan_count (es ++ entry ∷ []) m * ((txn_of set m).steps + 3)) (length set.txns)
  unfolding entry
  by_number_more h =
      let m = sum_moved (λ m. plan_count es m * ((txn_of set m).steps + 3)) (λ m. plan_count (es ++ entry ∷ []) m * ((txn_of set m).steps + 3)) n (length set.txns) may.in_set
      (λ k ne. ap (λ (c : ℕ). c * ((txn_of set k).steps + 3)) (let a : plan_count (es ++ entry ∷ []) k ≡ plan_count es k = omega (arith, count_more es entry k, in_there k ne) in a)) in
      let c : plan_count (es ++ entry ∷ []) n ≡ plan_count es n + 1 = omega (arith, count_more es entry n, in_here) in
      let d : plan_count (es ++ entry ∷ []) n * ((txn_of set n).steps + 3) ≡ plan_count es n * ((txn_of set n).steps + 3) + ((txn_of set n).steps + 3) =
      ap (λ (k : ℕ). k * ((txn_of set n).steps + 3)) c ∙ times (plan_count es n) ((txn_of set n).steps + 3) in
      omega (arith, m, d, h.by_number, room_more set es entry) where
        times : (c k : ℕ) → (c + 1) * k ≡ c * k + k
        times c k = omega (arith, add-mul c 1 k, one-mul k)

  pub plan_plannings : tick ≤ 2 ^ 40 → Plannings set es s.plans → Plannings set (es ++ Planned (record { 0 = n }) tick ∷ []) (with_plan s n tick).plans
  unfolding with_plan noted entry
  plan_plannings limit h = record {
    by_number = by_number_more h;
    count = λ m. elim (cases_eq m n) [
      | inl e ↦ (let a : plan_count (es ++ entry ∷ []) n ≡ plan_count es n + 1 = omega (arith, count_more es entry n, in_here) in
          omega (arith, a, h.count n, ap (plan_count (es ++ entry ∷ [])) e, ap (λ (k : ℕ). (get_or (with_item s.plans n noted) k (record { number = 0; last = 0 })).number) e, ap (λ (p : Plans). p.number) here))
      | inr ne ↦ omega (arith, count_more es entry m, in_there m ne, h.count m, ap (λ (p : Plans). p.number) (there m ne))
    ];
    last = λ m. elim (cases_eq m n) [
      | inl e ↦ omega (arith, planned_more es entry, ap (λ (k : ℕ). (get_or (with_item s.plans n noted) k (record { number = 0; last = 0 })).last) e, ap (λ (p : Plans). p.last) here)
      | inr ne ↦ omega (arith, planned_more es entry, h.last m, ap (λ (p : Plans). p.last) (there m ne))
    ];
    few = λ m. elim (cases_eq m n) [
      | inl e ↦ omega (arith, may.few, ap (λ (k : ℕ). (get_or (with_item s.plans n noted) k (record { number = 0; last = 0 })).number) e, ap (λ (p : Plans). p.number) here)
      | inr ne ↦ omega (arith, h.few m, ap (λ (p : Plans). p.number) (there m ne))
    ];
    limit = omega (arith, planned_more es entry, h.limit, limit);
  }
