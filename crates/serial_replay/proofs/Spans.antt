-- The delay of a released job is that between its planned tick and its end, by the entries alone.
use Rattle.std.proofs.Common.{◌≡◌, ◌⊎◌, ℕ, zero, suc, ◌+◌, ◌^◌, ◌<◌, ◌≤◌, ◌==◌, ◌&&◌, Bool, true, false, cond, List, [], ◌∷◌, ◌++◌, map, length, max, Option, None, Some, get_or, slice_get, set as with_item, refl, ap, sym, ◌∙◌, subst, inl, inr, arith, length-append, append_assoc, get_or-set_same, get_or-set_other}
use Rattle.std.proofs.Math.Nat.{le-max_left, le-max_right}
use Rattle.std.proofs.lemmas.List.{append-nil}
use Rattle.std.proofs.lemmas.List.Elements.{filter_map-append}
use Rattle.std.proofs.lemmas.Option.{get_or_from_slice_get}
use Rattle.std.proofs.lemmas.Bool.{cases_eq, eqb-true, eq-eqb, ne_eqb, and_from}
use Rattle.std.specs.Prelude.{is_some, ◌↔◌}
use Rattle.std.specs.Option.{option_map}
use Rattle.std.specs.List.{filter, cons_option, find}
use Rattle.rt_base.specs.declared.ids.JobId.{JobId}
use Rattle.rt_base.specs.declared.ids.TxId.{TxId}
use Rattle.rt_base.specs.declared.operation.Op.{Op}
use Rattle.rt_base.specs.declared.operation.Outcome.{Outcome}
use Rattle.rt_base.specs.declared.operation.End.{End}
use Rattle.rt_base.specs.declared.release.Release.{Release}
use Rattle.rt_base.specs.declared.release.Plans.{Plans}
use Rattle.txn_set.specs.Set.{Set, IsCompiled}
use Rattle.step_journal.specs.declared.entry.Entry.{Entry}
use Rattle.step_journal.specs.declared.entry.Entry.TheVariants.{Planned, Step, Blocked, Idle}
use Rattle.step_journal.specs.declared.entry.EndedJob.{EndedJob}
use Rattle.step_journal.specs.State.{State, Row, row_of, pending, same_job, new_row, opening}
use Rattle.step_journal.specs.LockRule.{in_falling_priority}
use Rattle.step_journal.specs.Instant.{is_due, with_row, with_end, with_releases, with_cancellations, arrived}
use Rattle.step_journal.specs.Step.{plans_of, next_job, with_plan, with_wait, lock_refusal, row_after, end_by, settled, after_effect, with_step, end_of}
use Rattle.step_journal.specs.History.{state_after, IsLegal, state_of}
use Rattle.step_journal.specs.Serial.{ops_of}
use Rattle.step_journal.specs.Running.{running, job_row}
use Rattle.step_journal.specs.Timing.{planned_tick_in, pending_span, ended_span, span_of, delayers}
use Rattle.law_histories.proofs.Members.{In, filter_in, pending_in}
use Rattle.law_histories.proofs.Lists.{find_some}
use Rattle.law_histories.proofs.Invariant.{IsPending, in_range, written, same_job_is, job_row_is, running_is}
use Rattle.law_histories.proofs.Histories.{may_plan_is, idle_early, settled_sound}
use Rattle.law_histories.proofs.Holding.{append_in, map_in}
use Rattle.law_histories.proofs.Ends.{left}
use Rattle.law_histories.proofs.Calendar.{Sound, named_from, sorted_in, late_rows, after_cancelled, after_late, due, after_due, came_at, deadline_of}
use Rattle.law_histories.proofs.Never.{legal_sound, nothing_at, refused_all}
use Rattle.law_histories.proofs.SerialAll.{legal_serial}
use Rattle.law_histories.proofs.DelayAll.{AllPast, legal_delay, all_later as past_all}
use Rattle.law_histories.specs.Counting.{greatest_planned}
use Rattle.law_histories.proofs.CountingAll.{time_bounded}
use Rattle.board.specs.Over.{over_of}
use Rattle.board.proofs.Asks.{running_here}
use Rattle.board.proofs.Bounds.{arrived_plans}
use Rattle.board.proofs.Overs.{arrived_ended, over_after, ended_others, late_of, same_self}
use Rattle.job_rows.proofs.Delayed.{within, within_since}
use Rattle.job_rows.proofs.Named.{pending_delayers, ended_delayers}
use Rattle.job_rows.proofs.Moved.{moves}
use Rattle.job_rows.proofs.Going.{next_legal, state_next}
use Rattle.job_rows.specs.declared.row.Delay.{Delay}
use Rattle.job_rows.specs.Rows.{delay_by, delay_of}
use Rattle.serial_replay.specs.Spans.{ticks_of, release_in, ends_at, ends_of, end_in, delay_between, AreEarly}
use Rattle.job_rows.proofs.Fronts.{front_legal}

-- places of longer lists

get_more : {A : Type 0} (xs ys : List A) (n : ℕ) (x : A) → slice_get xs n ≡ Some x → slice_get (xs ++ ys) n ≡ Some x
get_more [] ys n x h = absurd cc
get_more (y ∷ xs) ys zero x h = h
get_more (y ∷ xs) ys (suc n) x h = get_more xs ys n x h

get_last : {A : Type 0} (xs : List A) (x : A) → slice_get (xs ++ x ∷ []) (length xs) ≡ Some x
get_last [] x = refl
get_last (y ∷ xs) x = get_last xs x

-- what the entries tell of a job

abbrev Knows : List Entry → JobId → ℕ → Type 0
Knows es job release = slice_get (ticks_of es job.tx.0) job.serial ≡ Some release

abbrev Ends : Set → List Entry → EndedJob → Type 0
Ends set es e = (ends_of es e.job ≡ e.tick ∷ []) ⊎ ((ends_of es e.job ≡ []) × (e.tick ≡ e.release + deadline_of set e.job))

pub record Told (set : Set) (es : List Entry) (s : State) : Type 0 where
  pub count : (n : ℕ) → length (ticks_of es n) ≡ (plans_of s n).number
  pub planned : (r : Release) → In r s.planned → Knows es r.job r.tick
  pub rows : (x : Row) → IsPending s.rows x → Knows es x.job x.release × (ends_of es x.job ≡ [])
  pub done : (e : EndedJob) → In e s.ended → Knows es e.job e.release × Ends set es e

ticks_more : (es : List Entry) (e : Entry) (n : ℕ) → ticks_of (es ++ e ∷ []) n ≡ ticks_of es n ++ cons_option (planned_tick_in n e) []
ticks_more es e n = filter_map-append (planned_tick_in n) es (e ∷ [])

ends_more : (es : List Entry) (e : Entry) (job : JobId) → ends_of (es ++ e ∷ []) job ≡ ends_of es job ++ cons_option (ends_at job e) []
ends_more es e job = filter_map-append (ends_at job) es (e ∷ [])

knows_more : (es : List Entry) (e : Entry) (job : JobId) (release : ℕ) → Knows es job release → Knows (es ++ e ∷ []) job release
knows_more es e job release h =
    ap (λ (l : List ℕ). slice_get l job.serial) (ticks_more es e job.tx.0) ∙ get_more (ticks_of es job.tx.0) (cons_option (planned_tick_in job.tx.0 e) []) job.serial release h

-- a job without steps did not end by one

ends_none_at : (job by : JobId) (op : Op) (over : Option End) (tick : ℕ) (b : Bool) (ops : List Op) (ends : List ℕ) → cons_option (cond b (Some op) None) ops ≡ [] → (ops ≡ [] → ends ≡ []) → cons_option (cond (b && is_some over) (Some (tick + 1)) None) ends ≡ []
ends_none_at job by op over tick true ops ends h more = absurd cc
ends_none_at job by op over tick false ops ends h more = more h

ends_none : (es : List Entry) (job : JobId) → ops_of es job ≡ [] → ends_of es job ≡ []
ends_none [] job h = refl
ends_none (Step by op outcome over tick ∷ es) job h = ends_none_at job by op over tick (same_job by job) (ops_of es job) (ends_of es job) h (ends_none es job)
ends_none (Planned tx tick ∷ es) job h = ends_none es job h
ends_none (Blocked by op on ceiling tick ∷ es) job h = ends_none es job h
ends_none (Idle from to ∷ es) job h = ends_none es job h

-- where a row comes from

pub record Old (s : State) (y : Row) : Type 0 where
  pub was : Row
  pub here : IsPending s.rows was
  pub job : y.job ≡ was.job
  pub release : y.release ≡ was.release

pub record New (s : State) (y : Row) : Type 0 where
  pub release : Release
  pub here : In release s.planned
  pub job : y.job ≡ release.job
  pub tick : y.release ≡ release.tick

arrived_rows : (set : Set) (refused : JobId → Bool) (t : ℕ) (s : State) (ok : IsCompiled set) (sound : Sound set refused t s) (y : Row) → IsPending (arrived set t s).rows y → Old s y ⊎ New s y
unfolding arrived with_releases with_cancellations after_cancelled due late_rows
arrived_rows set refused t s ok sound y h = elim ((after_due set refused t s ok sound).each y h) [
  | inl b ↦ (let f = (after_late set refused t s ok sound).rows y b in inl (record { was = f.was; here = f.here; job = f.job; release = f.release }))
  | inr c ↦ (let at = came_at set refused t s ok sound y c in inr (record { release = c.release; here = at.0; job = ap (λ (q : Row). q.job) c.is; tick = ap (λ (q : Row). q.release) c.is ∙ sym at.1 }))
]

arrived_planned : (set : Set) (refused : JobId → Bool) (t : ℕ) (s : State) (ok : IsCompiled set) (sound : Sound set refused t s) (r : Release) → In r (arrived set t s).planned → In r s.planned
unfolding arrived with_releases with_cancellations after_cancelled late_rows
arrived_planned set refused t s ok sound r i =
    subst (λ (l : List Release). In r l) (after_late set refused t s ok sound).planned (filter_in _ r _ i).0

-- what is told of an instant

pub record LateRow (set : Set) (t : ℕ) (s : State) (e : EndedJob) : Type 0 where
  pub row : Row
  pub here : IsPending s.rows row
  pub is : e ≡ late_of t row
  pub due : row.release + deadline_of set row.job ≡ t

late_row : (set : Set) (refused : JobId → Bool) (t : ℕ) (s : State) → Sound set refused t s → (e : EndedJob) → In e (map (late_of t) (in_falling_priority set (filter (is_due set t) (pending s.rows)))) → LateRow set t s e
late_row set refused t s sound e i =
    let m = map_in (late_of t) e (in_falling_priority set (filter (is_due set t) (pending s.rows))) i in
    let f = filter_in (is_due set t) m.0 (pending s.rows) (sorted_in set m.0 (filter (is_due set t) (pending s.rows)) m.1) in
    let at = pending_in s.rows m.0 f.0 in
    record {
      row = m.0;
      here = subst (λ (k : ℕ). row_of s.rows k ≡ Some m.0) (sym (sound.frame.named at.0 m.0 at.1)) at.1;
      is = m.2;
      due = eqb-true _ _ f.1;
    }

-- the entries es' have one more entry than es, that of the events before the arrival
module _ (set : Set) (refused : JobId → Bool) (t : ℕ) (m : State) (ok : IsCompiled set) (sound : Sound set refused t m) (es es' : List Entry)
    (count : (n : ℕ) → length (ticks_of es' n) ≡ (plans_of m n).number)
    (planned : (r : Release) → In r m.planned → Knows es' r.job r.tick × (ends_of es r.job ≡ []))
    (rows : (x : Row) → IsPending m.rows x → Knows es' x.job x.release × (ends_of es x.job ≡ []) × ((ends_of es' x.job ≡ []) ⊎ (ends_of es' x.job ≡ t ∷ [])))
    (done : (e : EndedJob) → In e m.ended → Knows es' e.job e.release × Ends set es' e)
    (alive : (y : Row) → IsPending (arrived set t m).rows y → ends_of es' y.job ≡ ends_of es y.job) where
  late_told : (e : EndedJob) → LateRow set t m e → Knows es' e.job e.release × Ends set es' e
  late_told e l =
      let k = rows l.row l.here in
      let told : Knows es' l.row.job l.row.release × Ends set es' (late_of t l.row) = (k.0, elim k.2 [ inl none ↦ inr (none, sym l.due) | inr one ↦ inl one ]) in
      subst (λ (d : EndedJob). Knows es' d.job d.release × Ends set es' d) (sym l.is) told

  pub told_arrived : Told set es' (arrived set t m)
  told_arrived = record {
    count = λ n. count n ∙ ap (λ (l : List Plans). (get_or l n (record { number = 0; last = 0 })).number) (sym (arrived_plans set t m));
    planned = λ r i. (planned r (arrived_planned set refused t m ok sound r i)).0;
    rows = λ y h. elim (arrived_rows set refused t m ok sound y h) [
      | inl o ↦ (let k = rows o.was o.here in
          (ap (λ (j : JobId). slice_get (ticks_of es' j.tx.0) j.serial) o.job ∙ (k.0 ∙ ap Some (sym o.release)), alive y h ∙ (ap (ends_of es) o.job ∙ k.1)))
      | inr n ↦ (let k = planned n.release n.here in
          (ap (λ (j : JobId). slice_get (ticks_of es' j.tx.0) j.serial) n.job ∙ (k.0 ∙ ap Some (sym n.tick)), alive y h ∙ (ap (ends_of es) n.job ∙ k.1)))
    ];
    done = λ e i. elim (append_in e m.ended (map (late_of t) (in_falling_priority set (filter (is_due set t) (pending m.rows)))) (subst (λ (l : List EndedJob). In e l) (arrived_ended set t m) i)) [
      | inl old ↦ done e old
      | inr new ↦ late_told e (late_row set refused t m sound e new)
    ];
  }

-- a granted step

one_or_none : (b : Bool) (t : ℕ) → (cons_option (cond b (Some t) None) [] ≡ []) ⊎ (cons_option (cond b (Some t) None) [] ≡ t ∷ [])
one_or_none true t = inr refl
one_or_none false t = inl refl

and_not : (b c : Bool) → (b ≡ true → c ≡ false) → (b && c) ≡ false
and_not true c h = h refl
and_not false c h = refl

none_named : (job : JobId) (es : List EndedJob) → ((e : EndedJob) → In e es → same_job e.job job ≡ false) → find (λ e. same_job e.job job) es ≡ None
none_named job [] h = refl
none_named job (e ∷ es) h = ap (λ (b : Bool). cond b (Some e) (find (λ d. same_job d.job job) es)) (h e (inl refl)) ∙ none_named job es (λ d i. h d (inr i))

module _ (set : Set) (es : List Entry) (ok : IsCompiled set) (legal : IsLegal set es) (told : Told set es (state_of set es)) where
  still_told : (e : Entry) (next : State) → ((n : ℕ) → planned_tick_in n e ≡ None) → ((j : JobId) → ends_at j e ≡ None) → next.planned ≡ (state_of set es).planned → next.ended ≡ (state_of set es).ended → next.plans ≡ (state_of set es).plans
      → ((y : Row) → IsPending next.rows y → Old (state_of set es) y) → Told set (es ++ e ∷ []) next
  still_told e next ticks ends planned ended plans rows =
      let same : (j : JobId) → ends_of (es ++ e ∷ []) j ≡ ends_of es j = λ j. ends_more es e j ∙ (ap (λ (o : Option ℕ). ends_of es j ++ cons_option o []) (ends j) ∙ append-nil (ends_of es j)) in
      record {
        count = λ n. ap (λ (l : List ℕ). length l) (ticks_more es e n ∙ (ap (λ (o : Option ℕ). ticks_of es n ++ cons_option o []) (ticks n) ∙ append-nil (ticks_of es n)))
            ∙ (told.count n ∙ ap (λ (l : List Plans). (get_or l n (record { number = 0; last = 0 })).number) (sym plans));
        planned = λ r i. knows_more es e r.job r.tick (told.planned r (subst (λ (l : List Release). In r l) planned i));
        rows = λ y h.
            let o = rows y h in
            let k = told.rows o.was o.here in
            (ap (λ (j : JobId). slice_get (ticks_of (es ++ e ∷ []) j.tx.0) j.serial) o.job ∙ (knows_more es e o.was.job o.was.release k.0 ∙ ap Some (sym o.release)), same y.job ∙ (ap (ends_of es) o.job ∙ k.1));
        done = λ d i.
            let k = told.done d (subst (λ (l : List EndedJob). In d l) ended i) in
            (knows_more es e d.job d.release k.0, elim k.1 [ inl a ↦ inl (same d.job ∙ a) | inr b ↦ inr (same d.job ∙ b.0, b.1) ]);
      }

  module _ (x : Row) (op : Op) (outcome : Outcome) (over : Option End) (here : IsPending (state_of set es).rows x) (refused : JobId → Bool) (o : Option End)
      (sound : Sound set refused ((state_of set es).now + 1) (settled set (row_after (state_of set es) x op) ((state_of set es).now + 1) o (state_of set es)))
      (legal' : IsLegal set (es ++ Step x.job op outcome over (state_of set es).now ∷ []))
      (next : state_of set (es ++ Step x.job op outcome over (state_of set es).now ∷ []) ≡ arrived set ((state_of set es).now + 1) (settled set (row_after (state_of set es) x op) ((state_of set es).now + 1) o (state_of set es)))
      (ended_so : over ≡ end_of (state_of set (es ++ Step x.job op outcome over (state_of set es).now ∷ [])) x.job)
      (effect : (e : End) → o ≡ Some e → is_some over ≡ true) where
    ends_on : (j : JobId) → ends_of es j ≡ [] → (ends_of (es ++ Step x.job op outcome over (state_of set es).now ∷ []) j ≡ []) ⊎ (ends_of (es ++ Step x.job op outcome over (state_of set es).now ∷ []) j ≡ ((state_of set es).now + 1) ∷ [])
    ends_on j none =
        let e : ends_of (es ++ Step x.job op outcome over (state_of set es).now ∷ []) j ≡ cons_option (cond (same_job x.job j && is_some over) (Some ((state_of set es).now + 1)) None) [] =
        ends_more es (Step x.job op outcome over (state_of set es).now) j ∙ ap (λ (l : List ℕ). l ++ cons_option (cond (same_job x.job j && is_some over) (Some ((state_of set es).now + 1)) None) []) none in
        elim (one_or_none (same_job x.job j && is_some over) ((state_of set es).now + 1)) [ inl a ↦ inl (e ∙ a) | inr b ↦ inr (e ∙ b) ]

    other_ends : (j : JobId) → (same_job x.job j && is_some over) ≡ false → ends_of (es ++ Step x.job op outcome over (state_of set es).now ∷ []) j ≡ ends_of es j
    other_ends j no_end =
        ends_more es (Step x.job op outcome over (state_of set es).now) j
        ∙ (ap (λ (b : Bool). ends_of es j ++ cons_option (cond b (Some ((state_of set es).now + 1)) None) []) no_end ∙ append-nil (ends_of es j))

    not_ended : (d : EndedJob) → In d (state_of set es).ended → (same_job x.job d.job && is_some over) ≡ false
    not_ended d i = and_not (same_job x.job d.job) (is_some over) (λ same. absurd (
        let is : x.job ≡ d.job = same_job_is x.job d.job same in
        let lt = (legal_serial set es ok legal).done_row d x i here (ap (λ (j : JobId). j.tx.0) (sym is)) in
        omega (arith, lt, ap (λ (j : JobId). j.serial) is)))

    alive : (y : Row) → IsPending (state_of set (es ++ Step x.job op outcome over (state_of set es).now ∷ [])).rows y → ends_of (es ++ Step x.job op outcome over (state_of set es).now ∷ []) y.job ≡ ends_of es y.job
    alive y h = other_ends y.job (and_not (same_job x.job y.job) (is_some over) (λ same.
        let after : State = state_of set (es ++ Step x.job op outcome over (state_of set es).now ∷ []) in
        let is : x.job ≡ y.job = same_job_is x.job y.job same in
        let none = none_named y.job after.ended (ended_others set (es ++ Step x.job op outcome over (state_of set es).now ∷ []) y ok legal' h) in
        ap is_some (ended_so ∙ (ap (end_of after) is ∙ ap (λ (q : Option EndedJob). option_map (λ e. e.end) q) none))))

    step_rows : (q : Option End) (y : Row) → IsPending (settled set (row_after (state_of set es) x op) ((state_of set es).now + 1) q (state_of set es)).rows y → Old (state_of set es) y
    unfolding with_end
    step_rows None y h = elim (written (state_of set es).rows x.job.tx.0 (row_after (state_of set es) x op) y (in_range (state_of set es).rows x.job.tx.0 x here) refl h) [
      | inl is ↦ record { was = x; here = here; job = ap (λ (q : Row). q.job) is; release = ap (λ (q : Row). q.release) is }
      | inr old ↦ record { was = y; here = old.1; job = refl; release = refl }
    ]
    step_rows (Some e) y h = let l = left (state_of set es).rows x.job y h in record { was = l.was; here = l.here; job = ap (λ (q : Row). q.job) l.is; release = ap (λ (q : Row). q.release) l.is }

    old_done : (d : EndedJob) → In d (state_of set es).ended → Knows (es ++ Step x.job op outcome over (state_of set es).now ∷ []) d.job d.release × Ends set (es ++ Step x.job op outcome over (state_of set es).now ∷ []) d
    old_done d i =
        let k = told.done d i in
        let same = other_ends d.job (not_ended d i) in
        (knows_more es (Step x.job op outcome over (state_of set es).now) d.job d.release k.0, elim k.1 [ inl a ↦ inl (same ∙ a) | inr b ↦ inr (same ∙ b.0, b.1) ])

    step_done : (q : Option End) → ((e : End) → q ≡ Some e → is_some over ≡ true) → (d : EndedJob) → In d (settled set (row_after (state_of set es) x op) ((state_of set es).now + 1) q (state_of set es)).ended
        → Knows (es ++ Step x.job op outcome over (state_of set es).now ∷ []) d.job d.release × Ends set (es ++ Step x.job op outcome over (state_of set es).now ∷ []) d
    unfolding with_end
    step_done None f d i = old_done d i
    step_done (Some e) f d i = elim (append_in d (state_of set es).ended (record { job = x.job; release = x.release; end = e; tick = (state_of set es).now + 1 } ∷ []) i) [
      | inl old ↦ old_done d old
      | inr new ↦ elim new [
        | inl is ↦ (
            let own : EndedJob = record { job = x.job; release = x.release; end = e; tick = (state_of set es).now + 1 } in
            let k = told.rows x here in
            let one : ends_of (es ++ Step x.job op outcome over (state_of set es).now ∷ []) x.job ≡ ((state_of set es).now + 1) ∷ [] =
            ends_more es (Step x.job op outcome over (state_of set es).now) x.job
            ∙ (ap (λ (l : List ℕ). l ++ cons_option (cond (same_job x.job x.job && is_some over) (Some ((state_of set es).now + 1)) None) []) k.1
            ∙ ap (λ (b : Bool). cons_option (cond b (Some ((state_of set es).now + 1)) None) []) (and_from _ _ (same_self x.job) (f e refl))) in
            let known : Knows (es ++ Step x.job op outcome over (state_of set es).now ∷ []) own.job own.release × Ends set (es ++ Step x.job op outcome over (state_of set es).now ∷ []) own =
            (knows_more es (Step x.job op outcome over (state_of set es).now) x.job x.release k.0, inl one) in
            subst (λ (q : EndedJob). Knows (es ++ Step x.job op outcome over (state_of set es).now ∷ []) q.job q.release × Ends set (es ++ Step x.job op outcome over (state_of set es).now ∷ []) q) (sym is) known)
        | inr none ↦ absurd none
      ]
    ]

    step_plans : (q : Option End) → ((settled set (row_after (state_of set es) x op) ((state_of set es).now + 1) q (state_of set es)).plans ≡ (state_of set es).plans) × ((settled set (row_after (state_of set es) x op) ((state_of set es).now + 1) q (state_of set es)).planned ≡ (state_of set es).planned)
    unfolding with_end
    step_plans None = (refl, refl)
    step_plans (Some e) = (refl, refl)

    pub told_step : Told set (es ++ Step x.job op outcome over (state_of set es).now ∷ []) (state_of set (es ++ Step x.job op outcome over (state_of set es).now ∷ []))
    told_step =
        let e : Entry = Step x.job op outcome over (state_of set es).now in
        let longer : List Entry = es ++ Step x.job op outcome over (state_of set es).now ∷ [] in
        let middle : State = settled set (row_after (state_of set es) x op) ((state_of set es).now + 1) o (state_of set es) in
        let plans = step_plans o in
        subst (Told set longer) (sym next)
        (told_arrived set refused ((state_of set es).now + 1) middle ok sound es longer
        (λ n. ap (λ (l : List ℕ). length l) (ticks_more es e n ∙ append-nil (ticks_of es n)) ∙ (told.count n ∙ ap (λ (l : List Plans). (get_or l n (record { number = 0; last = 0 })).number) (sym plans.0)))
        (λ r i. let j = subst (λ (l : List Release). In r l) plans.1 i in (knows_more es e r.job r.tick (told.planned r j), ends_none es r.job ((legal_serial set es ok legal).planned_new r j).ops))
        (λ y h. let a = step_rows o y h in
        let k = told.rows a.was a.here in
        let none : ends_of es y.job ≡ [] = ap (ends_of es) a.job ∙ k.1 in
        (ap (λ (j : JobId). slice_get (ticks_of longer j.tx.0) j.serial) a.job ∙ (knows_more es e a.was.job a.was.release k.0 ∙ ap Some (sym a.release)), none, ends_on y.job none))
        (step_done o effect)
        (λ y h. alive y (subst (λ (q : State). IsPending q.rows y) (sym next) h)))

  -- a plan

  plan_rows : (tx tick : ℕ) (y : Row) (b : Bool) → (tick == (state_of set es).now) ≡ b → tx < length (state_of set es).rows → IsPending (cond b (with_row tick (state_of set es).rows (next_job (state_of set es) tx)) (state_of set es).rows) y
      → Old (state_of set es) y ⊎ (y ≡ new_row (next_job (state_of set es) tx) tick)
  plan_rows tx tick y true e lt h = elim (written (state_of set es).rows tx (new_row (next_job (state_of set es) tx) tick) y lt refl h) [
    | inl is ↦ inr is
    | inr old ↦ inl (record { was = y; here = old.1; job = refl; release = refl })
  ]
  plan_rows tx tick y false e lt h = inl (record { was = y; here = h; job = refl; release = refl })

  plan_coming : (r q : Release) (b : Bool) → In r (cond b (state_of set es).planned ((state_of set es).planned ++ q ∷ [])) → In r (state_of set es).planned ⊎ (r ≡ q)
  plan_coming r q true i = inl i
  plan_coming r q false i = elim (append_in r (state_of set es).planned (q ∷ []) i) [ inl old ↦ inl old | inr new ↦ elim new [ inl is ↦ inr is | inr none ↦ absurd none ] ]

  plan_count : (tx : TxId) (tick n : ℕ) → tx.0 < length (state_of set es).plans
      → length (ticks_of (es ++ Planned tx tick ∷ []) n) ≡ (get_or (with_item (state_of set es).plans tx.0 (record { number = (plans_of (state_of set es) tx.0).number + 1; last = tick })) n (record { number = 0; last = 0 })).number
  plan_count tx tick n lt = elim (cases_eq tx.0 n) [
    | inl e ↦ (
        let now : Plans = record { number = (plans_of (state_of set es) tx.0).number + 1; last = tick } in
        let given : planned_tick_in n (Planned tx tick) ≡ Some tick = ap (λ (b : Bool). cond b (Some tick) None) (eq-eqb tx.0 n e) in
        ap (λ (l : List ℕ). length l) (ticks_more es (Planned tx tick) n ∙ ap (λ (o : Option ℕ). ticks_of es n ++ cons_option o []) given)
        ∙ (length-append (ticks_of es n) (tick ∷ [])
        ∙ (ap (λ (k : ℕ). k + 1) (told.count n ∙ ap (λ (k : ℕ). (plans_of (state_of set es) k).number) (sym e))
        ∙ (sym (ap (λ (p : Plans). p.number) (get_or-set_same (state_of set es).plans tx.0 now (record { number = 0; last = 0 }) lt))
        ∙ ap (λ (k : ℕ). (get_or (with_item (state_of set es).plans tx.0 now) k (record { number = 0; last = 0 })).number) e))))
    | inr ne ↦ (
        let now : Plans = record { number = (plans_of (state_of set es) tx.0).number + 1; last = tick } in
        let given : planned_tick_in n (Planned tx tick) ≡ None = ap (λ (b : Bool). cond b (Some tick) None) (ne_eqb tx.0 n ne) in
        ap (λ (l : List ℕ). length l) (ticks_more es (Planned tx tick) n ∙ (ap (λ (o : Option ℕ). ticks_of es n ++ cons_option o []) given ∙ append-nil (ticks_of es n)))
        ∙ (told.count n ∙ sym (ap (λ (p : Plans). p.number) (get_or-set_other (state_of set es).plans tx.0 n now (record { number = 0; last = 0 }) (λ e. ne (sym e))))))
  ]

  plan_known : (tx : TxId) (tick : ℕ) → Knows (es ++ Planned tx tick ∷ []) (next_job (state_of set es) tx.0) tick
  plan_known tx tick =
      let given : planned_tick_in tx.0 (Planned tx tick) ≡ Some tick = ap (λ (b : Bool). cond b (Some tick) None) (eq-eqb tx.0 tx.0 refl) in
      ap (λ (l : List ℕ). slice_get l (plans_of (state_of set es) tx.0).number) (ticks_more es (Planned tx tick) tx.0 ∙ ap (λ (o : Option ℕ). ticks_of es tx.0 ++ cons_option o []) given)
      ∙ (ap (λ (k : ℕ). slice_get (ticks_of es tx.0 ++ tick ∷ []) k) (sym (told.count tx.0)) ∙ get_last (ticks_of es tx.0) tick)

  plan_same : (tx : TxId) (tick : ℕ) (j : JobId) → ends_of (es ++ Planned tx tick ∷ []) j ≡ ends_of es j
  plan_same tx tick j = ends_more es (Planned tx tick) j ∙ append-nil (ends_of es j)

  told_plan : (tx : TxId) (tick : ℕ) → tx.0 < length set.txns → Told set (es ++ Planned tx tick ∷ []) (with_plan (state_of set es) tx.0 tick)
  unfolding with_plan
  told_plan tx tick lt =
      let sound = legal_sound set es ok legal in
      let job : JobId = next_job (state_of set es) tx.0 in
      let fresh : ends_of es job ≡ [] = ends_none es job ((legal_serial set es ok legal).future_new job (omega arith)).ops in
      record {
        count = λ n. plan_count tx tick n (omega (arith, lt, sound.calendar.plans_count));
        planned = λ r i. elim (plan_coming r (record { job = next_job (state_of set es) tx.0; tick = tick }) (tick == (state_of set es).now) i) [
          | inl old ↦ knows_more es (Planned tx tick) r.job r.tick (told.planned r old)
          | inr is ↦ subst (λ (q : Release). Knows (es ++ Planned tx tick ∷ []) q.job q.tick) (sym is) (plan_known tx tick)
        ];
        rows = λ y h. elim (plan_rows tx.0 tick y (tick == (state_of set es).now) refl (omega (arith, lt, sound.frame.count)) h) [
          | inl o ↦ (let k = told.rows o.was o.here in
              (ap (λ (j : JobId). slice_get (ticks_of (es ++ Planned tx tick ∷ []) j.tx.0) j.serial) o.job ∙ (knows_more es (Planned tx tick) o.was.job o.was.release k.0 ∙ ap Some (sym o.release)), plan_same tx tick y.job ∙ (ap (ends_of es) o.job ∙ k.1)))
          | inr is ↦ subst (λ (q : Row). Knows (es ++ Planned tx tick ∷ []) q.job q.release × (ends_of (es ++ Planned tx tick ∷ []) q.job ≡ [])) (sym is) (plan_known tx tick, plan_same tx tick job ∙ fresh)
        ];
        done = λ d i.
            let k = told.done d i in
            (knows_more es (Planned tx tick) d.job d.release k.0, elim k.1 [ inl a ↦ inl (plan_same tx tick d.job ∙ a) | inr b ↦ inr (plan_same tx tick d.job ∙ b.0, b.1) ]);
      }

  -- a refusal and idling

  wait_rows : (x : Row) (on : JobId) → IsPending (state_of set es).rows x → (y : Row) → IsPending (with_wait (state_of set es) x on).rows y → Old (state_of set es) y
  unfolding with_wait
  wait_rows x on here y h = elim (written (state_of set es).rows x.job.tx.0 (record x { waits_on = Some on }) y (in_range (state_of set es).rows x.job.tx.0 x here) refl h) [
    | inl is ↦ record { was = x; here = here; job = ap (λ (q : Row). q.job) is; release = ap (λ (q : Row). q.release) is }
    | inr old ↦ record { was = y; here = old.1; job = refl; release = refl }
  ]

  told_wait : (job on : JobId) (op : Op) (ceiling tick : ℕ) (x : Row) (by : JobId) → IsPending (state_of set es).rows x → Told set (es ++ Blocked job op on ceiling tick ∷ []) (with_wait (state_of set es) x by)
  unfolding with_wait
  told_wait job on op ceiling tick x by here = still_told (Blocked job op on ceiling tick) (with_wait (state_of set es) x by) (λ n. refl) (λ j. refl) refl refl refl (wait_rows x by here)

  told_idle : (from to : ℕ) (refused : JobId → Bool) → Sound set refused to (state_of set es) → Told set (es ++ Idle from to ∷ []) (arrived set to (state_of set es))
  told_idle from to refused sound =
      let same : (j : JobId) → ends_of (es ++ Idle from to ∷ []) j ≡ ends_of es j = λ j. ends_more es (Idle from to) j ∙ append-nil (ends_of es j) in
      told_arrived set refused to (state_of set es) ok sound es (es ++ Idle from to ∷ [])
      (λ n. ap (λ (l : List ℕ). length l) (ticks_more es (Idle from to) n ∙ append-nil (ticks_of es n)) ∙ told.count n)
      (λ r i. (knows_more es (Idle from to) r.job r.tick (told.planned r i), ends_none es r.job ((legal_serial set es ok legal).planned_new r i).ops))
      (λ x h. let k = told.rows x h in (knows_more es (Idle from to) x.job x.release k.0, k.1, inl (same x.job ∙ k.1)))
      (λ d i. let k = told.done d i in (knows_more es (Idle from to) d.job d.release k.0, elim k.1 [ inl a ↦ inl (same d.job ∙ a) | inr b ↦ inr (same d.job ∙ b.0, b.1) ]))
      (λ y h. same y.job)

  -- every entry

  abbrev StepTold : Op → Outcome → Option End → JobId → ℕ → Type 0
  StepTold op outcome over job tick =
      IsLegal set (es ++ Step job op outcome over tick ∷ []) → Told set (es ++ Step job op outcome over tick ∷ []) (state_of set (es ++ Step job op outcome over tick ∷ []))

  step_at : (x : Row) (op : Op) (outcome : Outcome) (over : Option End) → running set (state_of set es).rows ≡ Some x → lock_refusal set (state_of set es) x op ≡ None
      → state_after set (state_of set es) (Step x.job op outcome over (state_of set es).now) ≡ with_step set (state_of set es) x op → over ≡ end_of (with_step set (state_of set es) x op) x.job
      → StepTold op outcome over x.job (state_of set es).now
  unfolding with_step after_effect
  step_at x op outcome over runs granted next ended legal' =
      let t : ℕ = (state_of set es).now + 1 in
      let refused : JobId → Bool = refused_all (λ _. false) es in
      let o : Option End = end_by set (row_after (state_of set es) x op) t op in
      let sound = legal_sound set es ok legal in
      let here = running_here set es ok legal x runs in
      let run = running_is set (state_of set es).rows refused x (named_from set (state_of set es).rows ok sound.frame) sound.protocol runs in
      let after = settled_sound set refused t (state_of set es) x op o ok sound run granted in
      let state : state_of set (es ++ Step x.job op outcome over (state_of set es).now ∷ []) ≡ arrived set t (settled set (row_after (state_of set es) x op) t o (state_of set es)) = state_next set es (Step x.job op outcome over (state_of set es).now) ∙ next in
      let is : over ≡ over_of (end_by set (row_after (state_of set es) x op) t op) (is_due set t x) = ended ∙ sym (over_after set es x op ok legal runs) in
      told_step x op outcome over here refused o after legal' state (ended ∙ ap (λ (q : State). end_of q x.job) (sym state))
      (λ e at. ap is_some (is ∙ ap (λ (q : Option End). over_of q (is_due set t x)) at))

  told_step_any : (job : JobId) (op : Op) (outcome : Outcome) (over : Option End) (tick : ℕ) → StepTold op outcome over job tick
  told_step_any job op outcome over tick legal' =
      let m = moves set (state_of set es) (Step job op outcome over tick) (next_legal set es (Step job op outcome over tick) legal') in
      let next = ap (λ (j : JobId). state_after set (state_of set es) (Step j op outcome over (state_of set es).now)) m.job_is ∙ m.next_is in
      let ended = m.over_is ∙ ap (λ (q : State). end_of q m.row.job) m.next_is in
      let goes : StepTold op outcome over job (state_of set es).now = subst (λ (j : JobId). StepTold op outcome over j (state_of set es).now) m.job_is (step_at m.row op outcome over m.runs m.granted next ended) in
      subst (StepTold op outcome over job) (sym m.tick_is) goes legal'

  told_next : (e : Entry) → IsLegal set (es ++ e ∷ []) → Told set (es ++ e ∷ []) (state_of set (es ++ e ∷ []))
  told_next (Planned tx tick) legal' =
      let m = moves set (state_of set es) (Planned tx tick) (next_legal set es (Planned tx tick) legal') in
      subst (Told set (es ++ Planned tx tick ∷ [])) (sym (state_next set es (Planned tx tick) ∙ m.1)) (told_plan tx tick (may_plan_is set (state_of set es) tx.0 tick m.0).in_set)
  told_next (Step job op outcome over tick) legal' = told_step_any job op outcome over tick legal'
  told_next (Blocked job op on ceiling tick) legal' =
      let m = moves set (state_of set es) (Blocked job op on ceiling tick) (next_legal set es (Blocked job op on ceiling tick) legal') in
      subst (Told set (es ++ Blocked job op on ceiling tick ∷ [])) (sym (state_next set es (Blocked job op on ceiling tick) ∙ m.next_is)) (told_wait job on op ceiling tick m.row m.above.holder (running_here set es ok legal m.row m.runs))
  told_next (Idle from to) legal' =
      let m = moves set (state_of set es) (Idle from to) (next_legal set es (Idle from to) legal') in
      subst (Told set (es ++ Idle from to ∷ [])) (sym (state_next set es (Idle from to) ∙ m.next_is)) (told_idle from to (refused_all (λ _. false) es) (idle_early set (refused_all (λ _. false) es) (state_of set es) to (legal_sound set es ok legal) m.none m.tick_is))

-- whole histories

nothing_told : (set : Set) → Told set [] (state_of set [])
unfolding opening
nothing_told set = record {
  count = λ n. sym (no_number set.txns n);
  planned = λ r i. absurd i;
  rows = λ x h. absurd (nothing_at set.txns x.job.tx.0 x h);
  done = λ e i. absurd i;
} where
  no_number : {A : Type 0} (xs : List A) (n : ℕ) → (get_or {A = Plans} (map (λ t. record { number = 0; last = 0 }) xs) n (record { number = 0; last = 0 })).number ≡ 0
  no_number [] n = refl
  no_number (x ∷ xs) zero = refl
  no_number (x ∷ xs) (suc n) = no_number xs n

all_told : (set : Set) (es rest : List Entry) → IsCompiled set → IsLegal set (es ++ rest) → Told set es (state_of set es) → Told set (es ++ rest) (state_of set (es ++ rest))
all_told set es [] ok legal told = subst (λ (l : List Entry). Told set l (state_of set l)) (sym (append-nil es)) told
all_told set es (e ∷ rest) ok legal told =
    let same : (es ++ e ∷ []) ++ rest ≡ es ++ e ∷ rest = append_assoc es (e ∷ []) rest in
    let whole : IsLegal set ((es ++ e ∷ []) ++ rest) = subst (IsLegal set) (sym same) legal in
    let longer : IsLegal set (es ++ e ∷ []) = front_legal set (opening set) (es ++ e ∷ []) rest whole in
    let before : IsLegal set es = front_legal set (opening set) es (e ∷ []) longer in
    subst (λ (l : List Entry). Told set l (state_of set l)) same (all_told set (es ++ e ∷ []) rest ok whole (told_next set es ok before told e longer))

pub legal_told : (set : Set) (entries : List Entry) → IsCompiled set → IsLegal set entries → Told set entries (state_of set entries)
legal_told set entries ok legal = all_told set [] entries ok legal (nothing_told set)

-- the delay

within_later : (set : Set) (job : JobId) (from t u : ℕ) (es : List Entry) → t ≤ u → AllPast t es → within set es job from t ≡ within set es job from u
within_later set job from t u es le past = within_since set job from t es past ∙ sym (within_since set job from u es (past_all t u es le past))

pub record IsReleased (set : Set) (entries : List Entry) (job : JobId) : Type 0 where
  pub in_set : job.tx.0 < length set.txns
  pub delayers_are : delayers set entries job ≡ within set entries job (release_in entries job) (end_in entries job (release_in entries job + deadline_of set job))

pending_case : (set : Set) (entries : List Entry) (x : Row) → IsCompiled set → IsLegal set entries → IsPending (state_of set entries).rows x → IsReleased set entries x.job
pending_case set entries x ok legal here =
    let k = (legal_told set entries ok legal).rows x here in
    let sound = legal_sound set entries ok legal in
    let from : release_in entries x.job ≡ x.release = get_or_from_slice_get (ticks_of entries x.job.tx.0) x.job.serial x.release 0 k.0 in
    let to : end_in entries x.job (release_in entries x.job + deadline_of set x.job) ≡ x.release + deadline_of set x.job =
    ap (λ (l : List ℕ). get_or l 0 (release_in entries x.job + deadline_of set x.job)) k.1 ∙ ap (λ (n : ℕ). n + deadline_of set x.job) from in
    let le : (state_of set entries).now ≤ x.release + deadline_of set x.job = (let a = sound.calendar.alive x here in omega (arith, a)) in
    record {
      in_set = omega (arith, in_range (state_of set entries).rows x.job.tx.0 x here, sound.frame.count);
      delayers_are =
          pending_delayers set entries x ok legal here
          ∙ (within_later set x.job x.release (state_of set entries).now (x.release + deadline_of set x.job) entries le (legal_delay set entries ok legal).past
          ∙ (ap (λ (n : ℕ). within set entries x.job n (x.release + deadline_of set x.job)) (sym from) ∙ ap (λ (n : ℕ). within set entries x.job (release_in entries x.job) n) (sym to)));
    }

planned_tx : (plans : List Plans) (n k : ℕ) → k < (get_or plans n (record { number = 0; last = 0 })).number → n < length plans
planned_tx [] n k lt = absurd (omega arith)
planned_tx (p ∷ plans) zero k lt = omega arith
planned_tx (p ∷ plans) (suc n) k lt = let a : n < length plans = planned_tx plans n k lt in omega arith

ended_case : (set : Set) (entries : List Entry) (e : EndedJob) → IsCompiled set → IsLegal set entries → In e (state_of set entries).ended → IsReleased set entries e.job
ended_case set entries e ok legal i =
    let k = (legal_told set entries ok legal).done e i in
    let from : release_in entries e.job ≡ e.release = get_or_from_slice_get (ticks_of entries e.job.tx.0) e.job.serial e.release 0 k.0 in
    let to : end_in entries e.job (release_in entries e.job + deadline_of set e.job) ≡ e.tick = elim k.1 [
      | inl one ↦ ap (λ (l : List ℕ). get_or l 0 (release_in entries e.job + deadline_of set e.job)) one
      | inr none ↦ ap (λ (l : List ℕ). get_or l 0 (release_in entries e.job + deadline_of set e.job)) none.0 ∙ (ap (λ (n : ℕ). n + deadline_of set e.job) from ∙ sym none.1)
    ] in
    record {
      in_set = omega (arith, planned_tx (state_of set entries).plans e.job.tx.0 e.job.serial ((legal_serial set entries ok legal).done e i), (legal_sound set entries ok legal).calendar.plans_count);
      delayers_are =
          ended_delayers set entries e ok legal i
          ∙ (ap (λ (n : ℕ). within set entries e.job n e.tick) (sym from) ∙ ap (λ (n : ℕ). within set entries e.job (release_in entries e.job) n) (sym to));
    }

pending_span_case : (set : Set) (entries : List Entry) (job : JobId) (o : Option Row) → IsCompiled set → IsLegal set entries → job_row (state_of set entries).rows job ≡ o → is_some (pending_span (state_of set entries) o) ≡ true → IsReleased set entries job
pending_span_case set entries job None ok legal e h = absurd cc
pending_span_case set entries job (Some x) ok legal e h =
    let is = job_row_is (state_of set entries).rows job x e in
    subst (IsReleased set entries) is.1 (pending_case set entries x ok legal is.0)

span_case : (set : Set) (entries : List Entry) (job : JobId) (o : Option EndedJob) → IsCompiled set → IsLegal set entries → find (λ d. same_job d.job job) (state_of set entries).ended ≡ o
    → is_some (ended_span o (pending_span (state_of set entries) (job_row (state_of set entries).rows job))) ≡ true → IsReleased set entries job
span_case set entries job None ok legal e h = pending_span_case set entries job (job_row (state_of set entries).rows job) ok legal refl h
span_case set entries job (Some d) ok legal e h =
    let f = find_some (λ (d : EndedJob). same_job d.job job) (state_of set entries).ended d e in
    subst (IsReleased set entries) (same_job_is d.job job f.passes) (ended_case set entries d ok legal f.here)

-- the job of a span is one of the set, and its delay is told by the entries
pub released : (set : Set) (entries : List Entry) (job : JobId) → IsCompiled set → IsLegal set entries → is_some (span_of (state_of set entries) job) ≡ true → IsReleased set entries job
released set entries job ok legal h = span_case set entries job (find (λ d. same_job d.job job) (state_of set entries).ended) ok legal refl h

-- the numbers are small

pub early_from : (t : ℕ) (es : List Entry) → t ≤ 2 ^ 63 → AllPast t es → AreEarly es
early_from t [] le h = tt
early_from t (Step by op outcome over tick ∷ es) le h = (omega (arith, h.0), early_from t es le h.1)
early_from t (Planned tx tick ∷ es) le h = (tt, early_from t es le h.1)
early_from t (Blocked by op on ceiling tick ∷ es) le h = (tt, early_from t es le h.1)
early_from t (Idle from to ∷ es) le h = (tt, early_from t es le h.1)

pub low_now : (set : Set) (entries : List Entry) → IsCompiled set → IsLegal set entries → (state_of set entries).now ≤ 2 ^ 63
low_now set entries ok legal = omega (arith, (time_bounded set entries ok legal).all)

low_at : (tx tick n k rest : ℕ) (b : Bool) (ticks : List ℕ) → ((k : ℕ) → get_or ticks k 0 ≤ rest) → get_or (cons_option (cond b (Some tick) None) ticks) k 0 ≤ max tick rest
low_at tx tick n zero rest true ticks h = le-max_left tick rest
low_at tx tick n (suc k) rest true ticks h = (let a : get_or ticks k 0 ≤ rest = h k in omega (arith, le-max_right tick rest))
low_at tx tick n k rest false ticks h = (let a : get_or ticks k 0 ≤ rest = h k in omega (arith, le-max_right tick rest))

weaker : (a b c : ℕ) → a ≤ b → a ≤ max c b
weaker a b c h = omega (arith, le-max_right c b)

pub release_low : (es : List Entry) (n k : ℕ) → get_or (ticks_of es n) k 0 ≤ greatest_planned es
release_low [] n k = omega arith
release_low (Planned tx tick ∷ es) n k = low_at tx.0 tick n k (greatest_planned es) (tx.0 == n) (ticks_of es n) (release_low es n)
release_low (Step by op outcome over tick ∷ es) n k = weaker _ _ 0 (release_low es n k)
release_low (Blocked by op on ceiling tick ∷ es) n k = weaker _ _ 0 (release_low es n k)
release_low (Idle from to ∷ es) n k = weaker _ _ 0 (release_low es n k)

pub low_release : (set : Set) (entries : List Entry) (job : JobId) → IsCompiled set → IsLegal set entries → release_in entries job ≤ 2 ^ 40
low_release set entries job ok legal = omega (arith, release_low entries job.tx.0 job.serial, (time_bounded set entries ok legal).planned)

-- what the entries tell between these ticks is the delay
pub delay_told : (set : Set) (entries : List Entry) (job : JobId) (from deadline to : ℕ) → IsReleased set entries job → from ≡ release_in entries job → deadline ≡ deadline_of set job → to ≡ end_in entries job (from + deadline)
    → delay_between set entries job from to ≡ delay_of set entries job
delay_told set entries job from deadline to r f d t =
    let e : to ≡ end_in entries job (release_in entries job + deadline_of set job) =
    t ∙ ap (λ (n : ℕ). end_in entries job n) (ap (λ (n : ℕ). n + deadline) f ∙ ap (λ (n : ℕ). release_in entries job + n) d) in
    ap (λ (n : ℕ). delay_between set entries job n to) f
    ∙ (ap (λ (n : ℕ). delay_between set entries job (release_in entries job) n) e ∙ ap delay_by (sym r.delayers_are))

nobody : (ds : List JobId) → ((delay_by ds).by ≡ None) ↔ ((delay_by ds).ticks ≡ 0)
nobody [] = (λ _. refl, λ _. refl)
nobody (d ∷ ds) = (λ h. absurd cc, λ h. absurd (omega (arith, h)))

pub nobody_delays : (d : Delay) (ds : List JobId) → d ≡ delay_by ds → (d.by ≡ None) ↔ (d.ticks ≡ 0)
nobody_delays d ds is = subst (λ (d : Delay). (d.by ≡ None) ↔ (d.ticks ≡ 0)) (sym is) (nobody ds)
