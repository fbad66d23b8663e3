-- How a legal entry turns a state into the next, seen from the next: whoever is pending or has ended in it was pending before,
-- or came later; a wait goes on until one of its two jobs ends, and each wait began with a refusal.
use Rattle.std.proofs.Common.{◌≡◌, ◌≢◌, ◌⊎◌, ℕ, ◌+◌, ◌<◌, ◌≤◌, ◌==◌, Bool, true, false, cond, List, [], ◌∷◌, ◌++◌, length, Option, None, Some, refl, ap, sym, ◌∙◌, subst, inl, inr, arith}
use Rattle.std.proofs.lemmas.Bool.{cases_eq, eqb-true}
use Rattle.std.specs.List.{fold, filter}
use Rattle.std.specs.Option.{option_map, option_and_then}
use Rattle.rt_base.specs.declared.ids.JobId.{JobId}
use Rattle.rt_base.specs.declared.operation.Op.{Op}
use Rattle.rt_base.specs.declared.operation.End.{End}
use Rattle.rt_base.specs.declared.operation.End.TheVariants.{Late}
use Rattle.txn_set.specs.Set.{Set, IsCompiled}
use Rattle.item_model.specs.Work.{items_after}
use Rattle.step_journal.specs.State.{State, Row, pending, same_job, new_row, row_of}
use Rattle.step_journal.specs.declared.entry.Entry.{Entry}
use Rattle.step_journal.specs.declared.entry.Entry.TheVariants.{Planned, Step, Blocked, Idle}
use Rattle.step_journal.specs.declared.entry.EndedJob.{EndedJob}
use Rattle.step_journal.specs.LockRule.{Above, in_falling_priority}
use Rattle.step_journal.specs.Running.{running, of_job}
use Rattle.step_journal.specs.Instant.{freed, freed_from, with_end, with_late, with_row, is_due, with_cancellations, with_releases, arrived}
use Rattle.step_journal.specs.Step.{Event, plan, ask, idle, given, next_job, may_plan, with_plan, may_ask, lock_refusal, row_after, end_by, settled, after_effect, with_step, with_wait, answered, asked, next_tick, idled, step}
use Rattle.step_journal.specs.History.{event_of, state_given, entry_given, state_after, states_after, IsLegalEntry, IsLegalFrom}
use Rattle.law_histories.proofs.Members.{In, filter_in, pending_in}
use Rattle.law_histories.proofs.Invariant.{IsPending, Runs, in_range, same_row, same_job_is, written, written_here, written_other, running_is}
use Rattle.law_histories.proofs.Holding.{in_left, in_right, append_in}
use Rattle.law_histories.proofs.Ends.{left, stays, freed_keeps}
use Rattle.law_histories.proofs.Calendar.{Sound, named_from, sorted_in, late_rows, after_cancelled, due, after_due, nobody_there}
use Rattle.law_histories.proofs.Histories.{settled_sound, arrived_now, wait_now, plan_now, idle_early, MayPlan, may_plan_is}
use Rattle.law_histories.proofs.Never.{entry_goes, step_goes, refused_after}
use Rattle.law_texts.proofs.Goes.{Pends, IsIt, own_later, come, full_or_none, other_than_planned, entry_moves, later_at}

-- a pending job waits on another
pub record Waits (rows : List (Option Row)) (job by : JobId) : Type 0 where
  pub row : Row
  pub here : IsPending rows row
  pub job_is : row.job ≡ job
  pub on : row.waits_on ≡ Some by

-- a job has ended
pub record Ended (jobs : List EndedJob) (job : JobId) : Type 0 where
  pub ended : EndedJob
  pub here : In ended jobs
  pub job_is : ended.job ≡ job

-- a wait goes on, or one of its two jobs has ended
abbrev pub GoesOn : List (Option Row) → List EndedJob → JobId → JobId → Type 0
GoesOn rows ended job by = Waits rows job by ⊎ (Ended ended job ⊎ Ended ended by)

-- a job was pending in a state, or was released at n or later
abbrev pub WasOrCame : ℕ → State → JobId → ℕ → Type 0
WasOrCame n s job release = Pends s job release ⊎ (n ≤ release)

-- from a state to rows and ended jobs; N tells of each wait that is new
pub record Turns (N : JobId → JobId → Type 0) (n : ℕ) (s : State) (rows : List (Option Row)) (ended : List EndedJob) : Type 0 where
  pub kept : (e : EndedJob) → In e s.ended → In e ended
  pub pends : (y : Row) → IsPending rows y → WasOrCame n s y.job y.release
  pub ends : (e : EndedJob) → In e ended → In e s.ended ⊎ WasOrCame n s e.job e.release
  pub waits : (x : Row) (j : JobId) → IsPending s.rows x → x.waits_on ≡ Some j → GoesOn rows ended x.job j
  pub began : (y : Row) (j : JobId) → IsPending rows y → y.waits_on ≡ Some j → Waits s.rows y.job j ⊎ N y.job j

pub turns_nowhere : (N : JobId → JobId → Type 0) (n : ℕ) (s : State) → Turns N n s s.rows s.ended
turns_nowhere N n s = record {
  kept = λ e i. i;
  pends = λ y h. inl (record { row = y; here = h; job_is = refl; release_is = refl });
  ends = λ e i. inl i;
  waits = λ x j h on. inl (record { row = x; here = h; job_is = refl; on = on });
  began = λ y j h on. inl (record { row = y; here = h; job_is = refl; on = on });
}

was_as : (n : ℕ) (s : State) (job other : JobId) (release again : ℕ) → job ≡ other → release ≡ again → WasOrCame n s job release → WasOrCame n s other again
was_as n s job other release again j r (inl p) = inl (record { row = p.row; here = p.here; job_is = p.job_is ∙ j; release_is = p.release_is ∙ r })
was_as n s job other release again j r (inr late) = inr (omega (arith, late, r))

was_earlier : (n m : ℕ) (s : State) (job : JobId) (release : ℕ) → n ≤ m → WasOrCame m s job release → WasOrCame n s job release
was_earlier n m s job release le (inl p) = inl p
was_earlier n m s job release le (inr late) = inr (omega (arith, late, le))

pub turns_weaker : (N M : JobId → JobId → Type 0) (n m : ℕ) (s : State) (rows : List (Option Row)) (ended : List EndedJob) → n ≤ m → ((x j : JobId) → N x j → M x j) → Turns N m s rows ended → Turns M n s rows ended
turns_weaker N M n m s rows ended le more g = record {
  kept = g.kept;
  pends = λ y h. was_earlier n m s y.job y.release le (g.pends y h);
  ends = λ e i. elim (g.ends e i) [ inl old ↦ inl old | inr new ↦ inr (was_earlier n m s e.job e.release le new) ];
  waits = g.waits;
  began = λ y j h on. elim (g.began y j h on) [ inl old ↦ inl old | inr new ↦ inr (more y.job j new) ];
}

-- back to the state before

module _ (N : JobId → JobId → Type 0) (n : ℕ) (a : State) (rows : List (Option Row)) (ended : List EndedJob) (g : Turns N n a rows ended) where
  pends_back : (y : Row) (job : JobId) (release : ℕ) → IsPending rows y → y.job ≡ job → y.release ≡ release → WasOrCame n a job release
  pends_back y job release h j r = was_as n a y.job job y.release release j r (g.pends y h)

  waits_back : (w : Row) (job by : JobId) → IsPending rows w → w.job ≡ job → w.waits_on ≡ Some by → Waits a.rows job by ⊎ N job by
  waits_back w job by h j on = subst (λ (k : JobId). Waits a.rows k by ⊎ N k by) j (g.began w by h on)

was_before : (N : JobId → JobId → Type 0) (n m : ℕ) (a b : State) (job : JobId) (release : ℕ) → n ≤ m → Turns N n a b.rows b.ended → WasOrCame m b job release → WasOrCame n a job release
was_before N n m a b job release le g (inl p) = pends_back N n a b.rows b.ended g p.row job release p.here p.job_is p.release_is
was_before N n m a b job release le g (inr late) = inr (omega (arith, late, le))

-- a wait goes on from a state to the next
pub goes_on : (N : JobId → JobId → Type 0) (n : ℕ) (b : State) (rows : List (Option Row)) (ended : List EndedJob) (job by : JobId) → Turns N n b rows ended → GoesOn b.rows b.ended job by → GoesOn rows ended job by
goes_on N n b rows ended job by g (inl w) = subst (λ (k : JobId). GoesOn rows ended k by) w.job_is (g.waits w.row by w.here w.on)
goes_on N n b rows ended job by g (inr (inl o)) = inr (inl (record { ended = o.ended; here = g.kept o.ended o.here; job_is = o.job_is }))
goes_on N n b rows ended job by g (inr (inr o)) = inr (inr (record { ended = o.ended; here = g.kept o.ended o.here; job_is = o.job_is }))

pub turns_further : (N : JobId → JobId → Type 0) (n m : ℕ) (a b : State) (rows : List (Option Row)) (ended : List EndedJob) → n ≤ m → Turns N n a b.rows b.ended → Turns N m b rows ended → Turns N n a rows ended
turns_further N n m a b rows ended le g h = record {
  kept = λ e i. h.kept e (g.kept e i);
  pends = λ y i. was_before N n m a b y.job y.release le g (h.pends y i);
  ends = λ e i. elim (h.ends e i) [ inl old ↦ g.ends e old | inr new ↦ inr (was_before N n m a b e.job e.release le g new) ];
  waits = λ x j i on. goes_on N m b rows ended x.job j h (g.waits x j i on);
  began = λ y j i on. elim (h.began y j i on) [ inl w ↦ waits_back N n a b.rows b.ended g w.row y.job j w.here w.job_is w.on | inr new ↦ inr new ];
}

-- ends

freed_some : (job k : JobId) (o : Option JobId) → freed_from job o ≡ Some k → o ≡ Some k
freed_some job k None h = absurd cc
freed_some job k (Some on) h = at (same_job on job) h where
  at : (b : Bool) → cond b None (Some on) ≡ Some k → Some on ≡ Some k
  at true e = absurd cc
  at false e = e

freed_other : (k : JobId) (b : Bool) → b ≡ false → cond b None (Some k) ≡ Some k
freed_other k true e = absurd cc
freed_other k false e = refl

module _ (s : State) (r : Row) (e : End) (tick : ℕ) where
  abbrev last_end : EndedJob
  last_end = record { job = r.job; release = r.release; end = e; tick = tick }

  last_in : In last_end (s.ended ++ last_end ∷ [])
  last_in = in_right last_end s.ended (last_end ∷ []) (inl refl)

  -- a wait of another job, when a job ends
  wait_freed : (job by : JobId) (w : Waits s.rows job by) → w.row.job.tx.0 ≢ r.job.tx.0 → (b : Bool) → same_job by r.job ≡ b → GoesOn (with_end r e tick s).rows (with_end r e tick s).ended job by
  unfolding with_end
  wait_freed job by w ne true same = inr (inr (record { ended = last_end; here = last_in; job_is = sym (same_job_is by r.job same) }))
  wait_freed job by w ne false same =
      inl (record { row = freed r.job w.row; here = stays s.rows r.job w.row w.here ne; job_is = w.job_is; on = freed_keeps r.job by w.row.waits_on w.on same })

  wait_at_end : (job by : JobId) → IsIt s r → GoesOn s.rows s.ended job by → GoesOn (with_end r e tick s).rows (with_end r e tick s).ended job by
  unfolding with_end
  wait_at_end job by own (inl w) = elim (cases_eq w.row.job.tx.0 r.job.tx.0) [
    | inl same ↦ inr (inl (record { ended = last_end; here = last_in; job_is = sym (own w.row w.here same).0 ∙ w.job_is }))
    | inr ne ↦ wait_freed job by w ne (same_job by r.job) refl
  ]
  wait_at_end job by own (inr (inl o)) = inr (inl (record { ended = o.ended; here = in_left o.ended s.ended (last_end ∷ []) o.here; job_is = o.job_is }))
  wait_at_end job by own (inr (inr o)) = inr (inr (record { ended = o.ended; here = in_left o.ended s.ended (last_end ∷ []) o.here; job_is = o.job_is }))

  end_turns : (N : JobId → JobId → Type 0) (n : ℕ) (a : State) → Turns N n a s.rows s.ended → WasOrCame n a r.job r.release → IsIt s r → Turns N n a (with_end r e tick s).rows (with_end r e tick s).ended
  unfolding with_end
  end_turns N n a g was own = record {
    kept = λ d i. in_left d s.ended (last_end ∷ []) (g.kept d i);
    pends = λ y h.
        let l = left s.rows r.job y h in
        pends_back N n a s.rows s.ended g l.was y.job y.release l.here (ap (λ (q : Row). q.job) (sym l.is)) (ap (λ (q : Row). q.release) (sym l.is));
    ends = λ d i. elim (append_in d s.ended (last_end ∷ []) i) [
      | inl old ↦ g.ends d old
      | inr new ↦ elim new [
        | inl is ↦ inr (was_as n a r.job d.job r.release d.release (ap (λ (q : EndedJob). q.job) (sym is)) (ap (λ (q : EndedJob). q.release) (sym is)) was)
        | inr none ↦ absurd none
      ]
    ];
    waits = λ x j h on. wait_at_end x.job j own (g.waits x j h on);
    began = λ y j h on.
        let l = left s.rows r.job y h in
        waits_back N n a s.rows s.ended g l.was y.job j l.here (ap (λ (q : Row). q.job) (sym l.is))
        (freed_some r.job j l.was.waits_on (ap (λ (q : Row). q.waits_on) (sym l.is) ∙ on));
  }

late_turns : (N : JobId → JobId → Type 0) (n t : ℕ) (a : State) (gone : List Row) (s : State) → Turns N n a s.rows s.ended → ((r : Row) → In r gone → IsIt s r) → ((r : Row) → In r gone → WasOrCame n a r.job r.release)
    → Turns N n a (fold (with_late t) s gone).rows (fold (with_late t) s gone).ended
late_turns N n t a [] s g own was = g
late_turns N n t a (r ∷ rs) s g own was =
    late_turns N n t a rs (with_late t s r) (end_turns s r Late t N n a g (was r (inl refl)) (own r (inl refl))) (λ q i. own_later s t r q (own q (inr i))) (λ q i. was q (inr i))

-- to arrive at a tick

new_waits_not : (job j : JobId) (t : ℕ) (y : Row) → y ≡ new_row job t → y.waits_on ≡ Some j → ⊥
new_waits_not job j t y is on = let e : Some j ≡ None = sym on ∙ ap (λ (q : Row). q.waits_on) is in cc (e)

module _ (set : Set) (refused : JobId → Bool) (t : ℕ) (s : State) (ok : IsCompiled set) (sound : Sound set refused t s) (N : JobId → JobId → Type 0) (n : ℕ) (a : State) (le : n ≤ t) (g : Turns N n a s.rows s.ended) where
  cancelled_turns : Turns N n a (after_cancelled set refused t s ok sound).rows (after_cancelled set refused t s ok sound).ended
  unfolding after_cancelled late_rows
  cancelled_turns =
      let there : (r : Row) → In r (in_falling_priority set (filter (is_due set t) (pending s.rows))) → IsPending s.rows r = λ r i.
      let f = filter_in (is_due set t) r (pending s.rows) (sorted_in set r (filter (is_due set t) (pending s.rows)) i) in
      let at = pending_in s.rows r f.0 in
      subst (λ (k : ℕ). row_of s.rows k ≡ Some r) (sym (sound.frame.named at.0 r at.1)) at.1 in
      late_turns N n t a (in_falling_priority set (filter (is_due set t) (pending s.rows))) (record s { now = t }) g
      (λ r i c h same. let is = same_row s.rows c r h (there r i) same in (ap (λ (q : Row). q.job) is, ap (λ (q : Row). q.release) is))
      (λ r i. g.pends r (there r i))

  -- a wait goes on over the releases
  wait_at_releases : (job by : JobId) → GoesOn (after_cancelled set refused t s ok sound).rows (after_cancelled set refused t s ok sound).ended job by → GoesOn (arrived set t s).rows (arrived set t s).ended job by
  unfolding arrived with_releases with_cancellations after_cancelled due late_rows
  wait_at_releases job by (inl w) = inl (record {
    row = w.row;
    here = come t (due set refused t s ok sound) (after_cancelled set refused t s ok sound).rows w.row
        (λ r i. full_or_none (after_cancelled set refused t s ok sound).rows w.row r.job.tx.0 w.here (nobody_there set refused t s ok sound r i)) w.here;
    job_is = w.job_is;
    on = w.on;
  })
  wait_at_releases job by (inr (inl o)) = inr (inl (record { ended = o.ended; here = o.here; job_is = o.job_is }))
  wait_at_releases job by (inr (inr o)) = inr (inr (record { ended = o.ended; here = o.here; job_is = o.job_is }))

  arrived_turns : Turns N n a (arrived set t s).rows (arrived set t s).ended
  unfolding arrived with_releases with_cancellations after_cancelled due late_rows
  arrived_turns =
      let c = cancelled_turns in
      let each = (after_due set refused t s ok sound).each in
      record {
        kept = c.kept;
        pends = λ y h. elim (each y h) [ inl old ↦ c.pends y old | inr came ↦ inr (omega (arith, le, ap (λ (q : Row). q.release) came.is)) ];
        ends = c.ends;
        waits = λ x j h on. wait_at_releases x.job j (c.waits x j h on);
        began = λ y j h on. elim (each y h) [ inl old ↦ c.began y j old on | inr came ↦ absurd (new_waits_not came.release.job j t y came.is on) ];
      }

-- the effect of a granted step

settled_turns : (N : JobId → JobId → Type 0) (set : Set) (s : State) (x : Row) (op : Op) (o : Option End) → ((c : Row) → IsPending s.rows c → c.job.tx.0 ≡ x.job.tx.0 → c ≡ x) → IsPending s.rows x
    → Turns N (s.now + 1) s (settled set (row_after s x op) (s.now + 1) o s).rows (settled set (row_after s x op) (s.now + 1) o s).ended
settled_turns N set s x op None only here = record {
  kept = λ e i. i;
  pends = λ y h. elim (written s.rows x.job.tx.0 (row_after s x op) y (in_range s.rows _ x here) refl h) [
    | inl is ↦ inl (record { row = x; here = here; job_is = ap (λ (q : Row). q.job) (sym is); release_is = ap (λ (q : Row). q.release) (sym is) })
    | inr o ↦ inl (record { row = y; here = o.1; job_is = refl; release_is = refl })
  ];
  ends = λ e i. inl i;
  waits = λ c j h on. elim (cases_eq c.job.tx.0 x.job.tx.0) [
    | inl same ↦ (let is = only c h same in
        inl (record {
          row = row_after s x op;
          here = written_here s.rows x.job.tx.0 (row_after s x op) (in_range s.rows _ x here) refl;
          job_is = ap (λ (q : Row). q.job) (sym is);
          on = ap (λ (q : Row). q.waits_on) (sym is) ∙ on;
        }))
    | inr ne ↦ inl (record { row = c; here = written_other s.rows x.job.tx.0 (row_after s x op) c ne h; job_is = refl; on = on })
  ];
  began = λ y j h on. elim (written s.rows x.job.tx.0 (row_after s x op) y (in_range s.rows _ x here) refl h) [
    | inl is ↦ inl (record { row = x; here = here; job_is = ap (λ (q : Row). q.job) (sym is); on = ap (λ (q : Row). q.waits_on) (sym is) ∙ on })
    | inr o ↦ inl (record { row = y; here = o.1; job_is = refl; on = on })
  ];
}
settled_turns N set s x op (Some e) only here =
    let items = items_after set.items (row_after s x op).work x.release e s.items in
    end_turns (record s { items = items }) (row_after s x op) e (s.now + 1) N (s.now + 1) s (turns_nowhere N (s.now + 1) s) (inl (record { row = x; here = here; job_is = refl; release_is = refl })) (λ c h same.
    let is = only c h same in (ap (λ (q : Row). q.job) is, ap (λ (q : Row). q.release) is))

-- entries

-- an entry refuses the one job, which waits on the other
abbrev pub IsRefusal : Entry → JobId → JobId → Type 0
IsRefusal (Planned tx tick) x j = ⊥
IsRefusal (Step job op outcome over tick) x j = ⊥
IsRefusal (Blocked job op by ceiling tick) x j = (job ≡ x) × (by ≡ j)
IsRefusal (Idle from to) x j = ⊥

-- the wait of a refusal goes on
abbrev pub IsWaiting : List (Option Row) → List EndedJob → Entry → Type 0
IsWaiting rows ended (Planned tx tick) = Unit {0}
IsWaiting rows ended (Step job op outcome over tick) = Unit {0}
IsWaiting rows ended (Blocked job op by ceiling tick) = GoesOn rows ended job by
IsWaiting rows ended (Idle from to) = Unit {0}

still_waiting : (N : JobId → JobId → Type 0) (n : ℕ) (b : State) (rows : List (Option Row)) (ended : List EndedJob) (e : Entry) → Turns N n b rows ended → IsWaiting b.rows b.ended e → IsWaiting rows ended e
still_waiting N n b rows ended (Blocked job op by ceiling tick) g h = goes_on N n b rows ended job by g h
still_waiting N n b rows ended other g h = tt

wait_turns : (s : State) (x : Row) (op : Op) (on : JobId) (ceiling tick : ℕ) → IsPending s.rows x → x.waits_on ≡ None → Turns (IsRefusal (Blocked x.job op on ceiling tick)) s.now s (with_wait s x on).rows (with_wait s x on).ended
unfolding with_wait
wait_turns s x op on ceiling tick here runs =
    let x' : Row = record x { waits_on = Some on } in
    record {
      kept = λ e i. i;
      pends = λ y h. elim (written s.rows x.job.tx.0 x' y (in_range s.rows _ x here) refl h) [
        | inl is ↦ inl (record { row = x; here = here; job_is = ap (λ (q : Row). q.job) (sym is); release_is = ap (λ (q : Row). q.release) (sym is) })
        | inr o ↦ inl (record { row = y; here = o.1; job_is = refl; release_is = refl })
      ];
      ends = λ e i. inl i;
      waits = λ c j h was. elim (cases_eq c.job.tx.0 x.job.tx.0) [
        | inl same ↦ absurd (let e : Some j ≡ None = sym was ∙ (ap (λ (q : Row). q.waits_on) (same_row s.rows c x h here same) ∙ runs) in cc (e))
        | inr ne ↦ inl (record { row = c; here = written_other s.rows x.job.tx.0 x' c ne h; job_is = refl; on = was })
      ];
      began = λ y j h was. elim (written s.rows x.job.tx.0 x' y (in_range s.rows _ x here) refl h) [
        | inl is ↦ inr (ap (λ (q : Row). q.job) (sym is), (let e : Some on ≡ Some j = ap (λ (q : Row). q.waits_on) (sym is) ∙ was in cc))
        | inr o ↦ inl (record { row = y; here = o.1; job_is = refl; on = was })
      ];
    }

wait_row : (s : State) (x : Row) (on : JobId) → IsPending s.rows x → Waits (with_wait s x on).rows x.job on
unfolding with_wait
wait_row s x on here = record {
  row = record x { waits_on = Some on };
  here = written_here s.rows x.job.tx.0 (record x { waits_on = Some on }) (in_range s.rows _ x here) refl;
  job_is = refl;
  on = refl;
}

plan_turns_at : (N : JobId → JobId → Type 0) (set : Set) (refused : JobId → Bool) (s : State) (tx tick : ℕ) (b : Bool) → IsCompiled set → Sound set refused (s.now + 1) s → MayPlan set s tx tick → (tick == s.now) ≡ b
    → Turns N s.now s (cond b (with_row tick s.rows (next_job s tx)) s.rows) s.ended
plan_turns_at N set refused s tx tick false ok sound may e = turns_nowhere N s.now s
plan_turns_at N set refused s tx tick true ok sound may e =
    let now : tick ≡ s.now = eqb-true _ _ e in
    let lt : tx < length s.rows = omega (arith, may.in_set, sound.frame.count) in
    let new : Row = new_row (next_job s tx) tick in
    record {
      kept = λ d i. i;
      pends = λ y h. elim (written s.rows tx new y lt refl h) [
        | inl is ↦ inr (omega (arith, now, ap (λ (q : Row). q.release) is))
        | inr o ↦ inl (record { row = y; here = o.1; job_is = refl; release_is = refl })
      ];
      ends = λ d i. inl i;
      waits = λ x j h on. inl (record { row = x; here = written_other s.rows tx new x (other_than_planned set refused s tx tick x ok sound may now h) h; job_is = refl; on = on });
      began = λ y j h on. elim (written s.rows tx new y lt refl h) [
        | inl is ↦ absurd (new_waits_not (next_job s tx) j tick y is on)
        | inr o ↦ inl (record { row = y; here = o.1; job_is = refl; on = on })
      ];
    }

plan_turns : (N : JobId → JobId → Type 0) (set : Set) (refused : JobId → Bool) (s : State) (tx tick : ℕ) → IsCompiled set → Sound set refused (s.now + 1) s → MayPlan set s tx tick → Turns N s.now s (with_plan s tx tick).rows (with_plan s tx tick).ended
unfolding with_plan
plan_turns N set refused s tx tick ok sound may = plan_turns_at N set refused s tx tick (tick == s.now) ok sound may refl

pub record TurnsBy (e : Entry) (s next : State) : Type 0 where
  pub turns : Turns (IsRefusal e) next.now s next.rows next.ended
  pub waits : IsWaiting next.rows next.ended e

abbrev TurnsTo : State → Option (Entry × State) → Type 0
TurnsTo s None = Unit {0}
TurnsTo s (Some p) = TurnsBy p.0 s p.1

turns_given : (s : State) (b : Bool) (p : Entry × State) → (b ≡ true → TurnsTo s (Some p)) → TurnsTo s (given b p)
turns_given s true p h = h refl
turns_given s false p h = tt

turns_at : (N : JobId → JobId → Type 0) (n : ℕ) (s next : State) → next.now ≡ n → Turns N n s next.rows next.ended → Turns N next.now s next.rows next.ended
turns_at N n s next now g = subst (λ (k : ℕ). Turns N k s next.rows next.ended) (sym now) g

module _ (set : Set) (ok : IsCompiled set) (refused : JobId → Bool) (s : State) (sound : Sound set refused (s.now + 1) s) where
  answered_turns : (x : Row) (op : Op) (o : Option Above) → Runs set s.rows refused x → lock_refusal set s x op ≡ o → TurnsTo s (Some (answered set s x op o))
  unfolding with_step after_effect
  answered_turns x op None run e =
      let over : Option End = end_by set (row_after s x op) (s.now + 1) op in
      let after : State = settled set (row_after s x op) (s.now + 1) over s in
      let next : State = arrived set (s.now + 1) after in
      let entry : Entry = (answered set s x op None).0 in
      let a : Sound set refused (s.now + 1) after = settled_sound set refused (s.now + 1) s x op over ok sound run e in
      let effect = settled_turns (IsRefusal entry) set s x op over (λ c h same. same_row s.rows c x h run.here same) run.here in
      record {
        turns = turns_at (IsRefusal entry) (s.now + 1) s next (arrived_now set (s.now + 1) after)
            (arrived_turns set refused (s.now + 1) after ok a (IsRefusal entry) (s.now + 1) s (omega arith) effect);
        waits = tt;
      }
  answered_turns x op (Some above) run e = record {
    turns = turns_at (IsRefusal (Blocked x.job op above.holder above.ceiling s.now)) s.now s (with_wait s x above.holder) (wait_now s x above.holder)
        (wait_turns s x op above.holder above.ceiling s.now run.here run.runs);
    waits = inl (wait_row s x above.holder run.here);
  }

  asked_turns : (job : JobId) (op : Op) (x : Row) (b : Bool) → Runs set s.rows refused x → TurnsTo s (option_and_then (asked set s op) (cond b (Some x) None))
  asked_turns job op x true run = turns_given s (may_ask set x op) (answered set s x op (lock_refusal set s x op)) (λ may. answered_turns x op (lock_refusal set s x op) run refl)
  asked_turns job op x false run = tt

  ask_turns : (job : JobId) (op : Op) (o : Option Row) → running set s.rows ≡ o → TurnsTo s (option_and_then (asked set s op) (option_and_then (of_job job) o))
  ask_turns job op None e = tt
  ask_turns job op (Some x) e = asked_turns job op x (same_job x.job job) (running_is set s.rows refused x (named_from set s.rows ok sound.frame) sound.protocol e)

  idle_turns_at : (o : Option ℕ) → pending s.rows ≡ [] → next_tick s.planned ≡ o → TurnsTo s (option_map (λ t. (Idle s.now t, arrived set t s)) o)
  idle_turns_at None none e = tt
  idle_turns_at (Some t) none e = record {
    turns = turns_at (IsRefusal (Idle s.now t)) t s (arrived set t s) (arrived_now set t s)
        (arrived_turns set refused t s ok (idle_early set refused s t sound none e) (IsRefusal (Idle s.now t)) t s (omega arith) (turns_nowhere (IsRefusal (Idle s.now t)) t s));
    waits = tt;
  }

  idle_turns : (rows : List Row) → pending s.rows ≡ rows → TurnsTo s (idled set s rows)
  idle_turns [] e = idle_turns_at (next_tick s.planned) e refl
  idle_turns (r ∷ rs) e = tt

  step_turns : (event : Event) → TurnsTo s (step set s event)
  unfolding step
  step_turns (plan tx tick) = turns_given s (may_plan set s tx tick) (Planned (record { 0 = tx }) tick, with_plan s tx tick) (λ may. record {
    turns = turns_at (IsRefusal (Planned (record { 0 = tx }) tick)) s.now s (with_plan s tx tick) (plan_now s tx tick)
        (plan_turns (IsRefusal (Planned (record { 0 = tx }) tick)) set refused s tx tick ok sound (may_plan_is set s tx tick may));
    waits = tt;
  })
  step_turns (ask job op) = ask_turns job op (running set s.rows) refl
  step_turns idle = idle_turns (pending s.rows) refl

  turns_by : (e : Entry) (o : Option (Entry × State)) → TurnsTo s o → entry_given o ≡ Some e → TurnsBy e s (state_given s o)
  turns_by e None m h = absurd cc
  turns_by e (Some p) m h = let is : p.0 ≡ e = cc in subst (λ (q : Entry). TurnsBy q s p.1) is m

  pub entry_turns : (e : Entry) → IsLegalEntry set s e → TurnsBy e s (state_after set s e)
  entry_turns e legal = turns_by e (step set s (event_of e)) (step_turns (event_of e)) legal

-- lists of entries

-- one of the entries refuses the job
abbrev pub HasRefusal : List Entry → JobId → JobId → Type 0
HasRefusal es job by = (e : Entry) × In e es × IsRefusal e job by

pub record Turned (s last : State) (es : List Entry) : Type 0 where
  pub turns : Turns (HasRefusal es) s.now s last.rows last.ended
  pub waits : (e : Entry) → In e es → IsWaiting last.rows last.ended e

pub turned : (set : Set) (refused : JobId → Bool) (s : State) (es : List Entry) → IsCompiled set → Sound set refused (s.now + 1) s → IsLegalFrom set s es → Turned s (states_after set s es) es
turned set refused s [] ok sound legal = record { turns = turns_nowhere (HasRefusal []) s.now s; waits = λ e i. absurd i }
turned set refused s (e ∷ es) ok sound legal =
    let next = state_after set s e in
    let last = states_after set next es in
    let m = entry_turns set ok refused s sound e legal.0 in
    let sound' = (entry_goes set refused s e (step set s (event_of e)) (step_goes set ok refused s sound (event_of e)) legal.0).0 in
    let rest = turned set (refused_after refused e) next es ok sound' legal.1 in
    let le : s.now ≤ next.now = later_at set s next e (entry_moves set ok refused s sound e legal.0).at in
    let first = turns_weaker (IsRefusal e) (HasRefusal (e ∷ es)) s.now next.now s next.rows next.ended le (λ x j r. (e, inl refl, r)) m.turns in
    let later = turns_weaker (HasRefusal es) (HasRefusal (e ∷ es)) next.now next.now next last.rows last.ended (omega arith) (λ x j r. (r.0, inr r.1, r.2)) rest.turns in
    record {
      turns = turns_further (HasRefusal (e ∷ es)) s.now next.now s next last.rows last.ended le first later;
      waits = λ q i. elim i [
        | inl is ↦ subst (IsWaiting last.rows last.ended) (sym is) (still_waiting (HasRefusal es) next.now next last.rows last.ended e rest.turns m.waits)
        | inr old ↦ rest.waits q old
      ];
    }
