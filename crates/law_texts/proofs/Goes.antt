-- How a legal entry moves a state: who was pending goes on or has ended, who ended stays so, and each new end is at the new
-- present instant.
use Rattle.std.proofs.Common.{◌≡◌, ◌≢◌, ◌⊎◌, ℕ, ◌+◌, ◌<◌, ◌≤◌, ◌==◌, Bool, true, false, cond, List, [], ◌∷◌, ◌++◌, map, Option, None, Some, refl, ap, sym, ◌∙◌, subst, inl, inr, arith}
use Rattle.std.proofs.lemmas.Bool.{cases_eq, eqb-true}
use Rattle.std.specs.List.{fold, filter}
use Rattle.std.specs.Option.{option_map, option_and_then}
use Rattle.rt_base.specs.declared.ids.JobId.{JobId}
use Rattle.rt_base.specs.declared.operation.Op.{Op}
use Rattle.rt_base.specs.declared.operation.Outcome.{Outcome}
use Rattle.rt_base.specs.declared.operation.End.{End}
use Rattle.rt_base.specs.declared.operation.End.TheVariants.{Late}
use Rattle.rt_base.specs.declared.release.Release.{Release}
use Rattle.txn_set.specs.Set.{Set, IsCompiled, txn_of}
use Rattle.item_model.specs.Work.{outcome_of, items_after}
use Rattle.step_journal.specs.State.{State, Row, row_of, pending, same_job, new_row}
use Rattle.step_journal.specs.declared.entry.Entry.{Entry}
use Rattle.step_journal.specs.declared.entry.Entry.TheVariants.{Planned, Step, Blocked, Idle}
use Rattle.step_journal.specs.declared.entry.EndedJob.{EndedJob}
use Rattle.step_journal.specs.LockRule.{Above, in_falling_priority}
use Rattle.step_journal.specs.Running.{running, of_job}
use Rattle.step_journal.specs.Instant.{freed, with_end, with_late, with_row, is_due, with_cancellations, with_releases, arrived}
use Rattle.step_journal.specs.Step.{Event, plan, ask, idle, given, plans_of, next_job, may_plan, with_plan, may_ask, lock_refusal, row_after, end_by, settled, after_effect, with_step, with_wait, answered, asked, next_tick, idled, step}
use Rattle.step_journal.specs.History.{event_of, state_given, entry_given, state_after, states_after, IsLegalEntry, IsLegalFrom}
use Rattle.law_histories.proofs.Members.{In, filter_in, pending_in}
use Rattle.law_histories.proofs.Invariant.{IsPending, Runs, in_range, same_row, written_here, written_other, running_is}
use Rattle.law_histories.proofs.Holding.{in_left, append_in}
use Rattle.law_histories.proofs.Ends.{left, stays}
use Rattle.law_histories.proofs.Calendar.{Sound, deadline_of, period_of, deadline_le, named_from, sorted_in, late_rows, after_cancelled, due, nobody_there}
use Rattle.law_histories.proofs.Histories.{settled_sound, arrived_now, wait_now, plan_now, idle_early, MayPlan, may_plan_is}
use Rattle.law_histories.proofs.Never.{entry_goes, step_goes, refused_after}
use Rattle.law_histories.proofs.DelayAll.{next_later}

-- a job is pending in a state, or has ended in it, with this release

pub record Pends (s : State) (job : JobId) (release : ℕ) : Type 0 where
  pub row : Row
  pub here : IsPending s.rows row
  pub job_is : row.job ≡ job
  pub release_is : row.release ≡ release

pub record Over (s : State) (job : JobId) (release : ℕ) : Type 0 where
  pub ended : EndedJob
  pub here : In ended s.ended
  pub job_is : ended.job ≡ job
  pub release_is : ended.release ≡ release

-- who was pending goes on or has ended, who ended stays so, and each new end is at n or later
pub record Goes (n : ℕ) (s next : State) : Type 0 where
  pub kept : (e : EndedJob) → In e s.ended → In e next.ended
  pub new : (e : EndedJob) → In e next.ended → In e s.ended ⊎ (n ≤ e.tick)
  pub goes_on : (x : Row) → IsPending s.rows x → Pends next x.job x.release ⊎ Over next x.job x.release

pub goes_nowhere : (n : ℕ) (s : State) → Goes n s s
goes_nowhere n s = record {
  kept = λ e i. i;
  new = λ e i. inl i;
  goes_on = λ x h. inl (record { row = x; here = h; job_is = refl; release_is = refl });
}

on_or_over : (n : ℕ) (a b : State) (x : Row) → Goes n a b → Pends a x.job x.release ⊎ Over a x.job x.release → Pends b x.job x.release ⊎ Over b x.job x.release
on_or_over n a b x g (inl p) = elim (g.goes_on p.row p.here) [
  | inl q ↦ inl (record { row = q.row; here = q.here; job_is = q.job_is ∙ p.job_is; release_is = q.release_is ∙ p.release_is })
  | inr o ↦ inr (record { ended = o.ended; here = o.here; job_is = o.job_is ∙ p.job_is; release_is = o.release_is ∙ p.release_is })
]
on_or_over n a b x g (inr o) = inr (record { ended = o.ended; here = g.kept o.ended o.here; job_is = o.job_is; release_is = o.release_is })

pub goes_further : (n m : ℕ) (a b c : State) → n ≤ m → Goes n a b → Goes m b c → Goes n a c
goes_further n m a b c le g h = record {
  kept = λ e i. h.kept e (g.kept e i);
  new = λ e i. elim (h.new e i) [ inl old ↦ g.new e old | inr late ↦ inr (omega (arith, le, late)) ];
  goes_on = λ x i. on_or_over m b c x h (g.goes_on x i);
}

-- ends

-- a pending job of that transaction is the one that ends
abbrev pub IsIt : State → Row → Type 0
IsIt s r = (c : Row) → IsPending s.rows c → c.job.tx.0 ≡ r.job.tx.0 → (c.job ≡ r.job) × (c.release ≡ r.release)

end_goes : (n : ℕ) (s : State) (r : Row) (e : End) (tick : ℕ) → n ≤ tick → IsIt s r → Goes n s (with_end r e tick s)
unfolding with_end
end_goes n s r e tick le own =
    let last : EndedJob = record { job = r.job; release = r.release; end = e; tick = tick } in
    record {
      kept = λ d i. in_left d s.ended (last ∷ []) i;
      new = λ d i. elim (append_in d s.ended (last ∷ []) i) [
        | inl old ↦ inl old
        | inr new ↦ elim new [ inl is ↦ inr (omega (arith, le, ap (λ (q : EndedJob). q.tick) is)) | inr none ↦ absurd none ]
      ];
      goes_on = λ x h. elim (cases_eq x.job.tx.0 r.job.tx.0) [
        | inl same ↦ (let o = own x h same in inr (record { ended = last; here = in_last last s.ended; job_is = sym o.0; release_is = sym o.1 }))
        | inr ne ↦ inl (record { row = freed r.job x; here = stays s.rows r.job x h ne; job_is = refl; release_is = refl })
      ];
    } where
      in_last : (d : EndedJob) (ds : List EndedJob) → In d (ds ++ d ∷ [])
      in_last d [] = inl refl
      in_last d (q ∷ qs) = inr (in_last d qs)

pub own_later : (s : State) (t : ℕ) (r q : Row) → IsIt s q → IsIt (with_late t s r) q
unfolding with_end
own_later s t r q own c h same =
    let l = left s.rows r.job c h in
    let j : c.job ≡ l.was.job = ap (λ (k : Row). k.job) l.is in
    let o = own l.was l.here (sym (ap (λ (k : JobId). k.tx.0) j) ∙ same) in
    (j ∙ o.0, ap (λ (k : Row). k.release) l.is ∙ o.1)

late_goes : (n t : ℕ) (gone : List Row) (s : State) → n ≤ t → ((r : Row) → In r gone → IsIt s r) → Goes n s (fold (with_late t) s gone)
late_goes n t [] s le own = goes_nowhere n s
late_goes n t (r ∷ rs) s le own =
    goes_further n n s (with_late t s r) (fold (with_late t) (with_late t s r) rs) (omega arith) (end_goes n s r Late t le (own r (inl refl)))
    (late_goes n t rs (with_late t s r) le (λ q i. own_later s t r q (own q (inr i))))

-- releases

pub come : (t : ℕ) (due : List Release) (rows : List (Option Row)) (x : Row) → ((r : Release) → In r due → x.job.tx.0 ≢ r.job.tx.0) → IsPending rows x → IsPending (fold (with_row t) rows (map (λ r. r.job) due)) x
come t [] rows x apart h = h
come t (r ∷ rs) rows x apart h =
    come t rs (with_row t rows r.job) x (λ q i. apart q (inr i)) (written_other rows r.job.tx.0 (new_row r.job t) x (apart r (inl refl)) h)

pub full_or_none : (rows : List (Option Row)) (x : Row) (n : ℕ) → IsPending rows x → row_of rows n ≡ None → x.job.tx.0 ≢ n
full_or_none rows x n h e same = let at : row_of rows n ≡ Some x = subst (λ (k : ℕ). row_of rows k ≡ Some x) same h in absurd cc

-- to arrive at a tick

module _ (set : Set) (refused : JobId → Bool) (n t : ℕ) (s : State) (ok : IsCompiled set) (sound : Sound set refused t s) (le : n ≤ t) where
  cancelled_goes : Goes n s (after_cancelled set refused t s ok sound)
  unfolding after_cancelled late_rows
  cancelled_goes =
      let g = late_goes n t (in_falling_priority set (filter (is_due set t) (pending s.rows))) (record s { now = t }) le (λ r i c h same.
      let f = filter_in (is_due set t) r (pending s.rows) (sorted_in set r (filter (is_due set t) (pending s.rows)) i) in
      let at = pending_in s.rows r f.0 in
      let here : IsPending s.rows r = subst (λ (k : ℕ). row_of s.rows k ≡ Some r) (sym (sound.frame.named at.0 r at.1)) at.1 in
      let is = same_row s.rows c r h here same in
      (ap (λ (q : Row). q.job) is, ap (λ (q : Row). q.release) is)) in
      record { kept = g.kept; new = g.new; goes_on = g.goes_on }

  pub arrived_goes : Goes n s (arrived set t s)
  unfolding arrived with_releases with_cancellations after_cancelled due late_rows
  arrived_goes =
      let g = cancelled_goes in
      record {
        kept = g.kept;
        new = g.new;
        goes_on = λ x h. elim (g.goes_on x h) [
          | inl p ↦ inl (record {
            row = p.row;
            here = come t (due set refused t s ok sound) (after_cancelled set refused t s ok sound).rows p.row
                (λ r i. full_or_none (after_cancelled set refused t s ok sound).rows p.row r.job.tx.0 p.here (nobody_there set refused t s ok sound r i)) p.here;
            job_is = p.job_is;
            release_is = p.release_is;
          })
          | inr o ↦ inr (record { ended = o.ended; here = o.here; job_is = o.job_is; release_is = o.release_is })
        ];
      }

-- the effect of a granted step

settled_goes : (set : Set) (s : State) (x : Row) (op : Op) (o : Option End) → ((c : Row) → IsPending s.rows c → c.job.tx.0 ≡ x.job.tx.0 → c ≡ x) → IsPending s.rows x
    → Goes (s.now + 1) s (settled set (row_after s x op) (s.now + 1) o s)
settled_goes set s x op None only here = record {
  kept = λ e i. i;
  new = λ e i. inl i;
  goes_on = λ c h. elim (cases_eq c.job.tx.0 x.job.tx.0) [
    | inl same ↦ (let is = only c h same in
        inl (record {
          row = row_after s x op;
          here = written_here s.rows x.job.tx.0 (row_after s x op) (in_range s.rows _ x here) refl;
          job_is = ap (λ (q : Row). q.job) (sym is);
          release_is = ap (λ (q : Row). q.release) (sym is);
        }))
    | inr ne ↦ inl (record { row = c; here = written_other s.rows x.job.tx.0 (row_after s x op) c ne h; job_is = refl; release_is = refl })
  ];
}
settled_goes set s x op (Some e) only here =
    let items = items_after set.items (row_after s x op).work x.release e s.items in
    let g = end_goes (s.now + 1) (record s { items = items }) (row_after s x op) e (s.now + 1) (omega arith) (λ c h same.
    let is = only c h same in (ap (λ (q : Row). q.job) is, ap (λ (q : Row). q.release) is)) in
    record { kept = g.kept; new = g.new; goes_on = g.goes_on }

wait_goes : (s : State) (x : Row) (on : JobId) → IsPending s.rows x → Goes s.now s (with_wait s x on)
unfolding with_wait
wait_goes s x on here = record {
  kept = λ e i. i;
  new = λ e i. inl i;
  goes_on = λ c h. elim (cases_eq c.job.tx.0 x.job.tx.0) [
    | inl same ↦ (let is = same_row s.rows c x h here same in
        inl (record {
          row = record x { waits_on = Some on };
          here = written_here s.rows x.job.tx.0 (record x { waits_on = Some on }) (in_range s.rows _ x here) refl;
          job_is = ap (λ (q : Row). q.job) (sym is);
          release_is = ap (λ (q : Row). q.release) (sym is);
        }))
    | inr ne ↦ inl (record { row = c; here = written_other s.rows x.job.tx.0 (record x { waits_on = Some on }) c ne h; job_is = refl; release_is = refl })
  ];
}

-- a plan

-- a job that is planned for the present tick is of a transaction with nothing pending
pub other_than_planned : (set : Set) (refused : JobId → Bool) (s : State) (tx tick : ℕ) (x : Row) → IsCompiled set → Sound set refused (s.now + 1) s → MayPlan set s tx tick → tick ≡ s.now → IsPending s.rows x → x.job.tx.0 ≢ tx
other_than_planned set refused s tx tick x ok sound may now h same =
    let r = sound.calendar.released x h in
    let p : plans_of s x.job.tx.0 ≡ plans_of s tx = ap (plans_of s) same in
    let g : (plans_of s tx).last + (txn_of set tx).period ≤ tick = may.gap (omega (arith, r.1, ap (λ q. q.number) p)) in
    let d : deadline_of set x.job ≤ period_of set x.job = deadline_le set s.rows x ok sound.frame h in
    omega (arith, r.0, g, d, sound.calendar.alive x h, now, ap (λ q. q.last) p, ap (λ (n : ℕ). (txn_of set n).period) same)

plan_goes_at : (set : Set) (refused : JobId → Bool) (s : State) (tx tick : ℕ) (plans : _) (planned : List Release) (b : Bool) → IsCompiled set → Sound set refused (s.now + 1) s → MayPlan set s tx tick → (tick == s.now) ≡ b
    → Goes s.now s (record s { plans = plans; planned = planned; rows = cond b (with_row tick s.rows (next_job s tx)) s.rows })
plan_goes_at set refused s tx tick plans planned false ok sound may e = record {
  kept = λ d i. i;
  new = λ d i. inl i;
  goes_on = λ x h. inl (record { row = x; here = h; job_is = refl; release_is = refl });
}
plan_goes_at set refused s tx tick plans planned true ok sound may e = record {
  kept = λ d i. i;
  new = λ d i. inl i;
  goes_on = λ x h. inl (record {
    row = x;
    here = written_other s.rows tx (new_row (next_job s tx) tick) x (other_than_planned set refused s tx tick x ok sound may (eqb-true _ _ e) h) h;
    job_is = refl;
    release_is = refl;
  });
}

plan_goes : (set : Set) (refused : JobId → Bool) (s : State) (tx tick : ℕ) → IsCompiled set → Sound set refused (s.now + 1) s → MayPlan set s tx tick → Goes s.now s (with_plan s tx tick)
unfolding with_plan
plan_goes set refused s tx tick ok sound may = plan_goes_at set refused s tx tick _ _ (tick == s.now) ok sound may refl

-- entries, with their instants

-- the job of a step is pending and may ask it, and the outcome is that of its work
pub record StepOf (set : Set) (s : State) (job : JobId) (op : Op) (outcome : Outcome) : Type 0 where
  pub row : Row
  pub here : IsPending s.rows row
  pub job_is : row.job ≡ job
  pub may : may_ask set row op ≡ true
  pub outcome_is : outcome ≡ outcome_of s.items row.work op

abbrev pub IsAt : Set → State → State → Entry → Type 0
IsAt set s next (Planned tx tick) = next.now ≡ s.now
IsAt set s next (Step job op outcome over tick) = StepOf set s job op outcome × (tick ≡ s.now) × (next.now ≡ s.now + 1)
IsAt set s next (Blocked job op by ceiling tick) = (tick ≡ s.now) × (next.now ≡ s.now)
IsAt set s next (Idle from to) = (next.now ≡ to) × (s.now < to)

pub record Moves (set : Set) (s next : State) (e : Entry) : Type 0 where
  pub goes : Goes next.now s next
  pub at : IsAt set s next e

abbrev pub MovesTo : Set → State → Option (Entry × State) → Type 0
MovesTo set s None = Unit {0}
MovesTo set s (Some p) = Moves set s p.1 p.0

moves_given : (set : Set) (s : State) (b : Bool) (p : Entry × State) → (b ≡ true → MovesTo set s (Some p)) → MovesTo set s (given b p)
moves_given set s true p h = h refl
moves_given set s false p h = tt

module _ (set : Set) (ok : IsCompiled set) (refused : JobId → Bool) (s : State) (sound : Sound set refused (s.now + 1) s) where
  answered_moves : (x : Row) (op : Op) (o : Option Above) → Runs set s.rows refused x → may_ask set x op ≡ true → lock_refusal set s x op ≡ o → MovesTo set s (Some (answered set s x op o))
  unfolding with_step after_effect
  answered_moves x op None run may e =
      let after : State = settled set (row_after s x op) (s.now + 1) (end_by set (row_after s x op) (s.now + 1) op) s in
      let next : State = arrived set (s.now + 1) after in
      let a : Sound set refused (s.now + 1) after = settled_sound set refused (s.now + 1) s x op (end_by set (row_after s x op) (s.now + 1) op) ok sound run e in
      let g : Goes (s.now + 1) s next =
      goes_further (s.now + 1) (s.now + 1) s after next (omega arith)
      (settled_goes set s x op (end_by set (row_after s x op) (s.now + 1) op) (λ c h same. same_row s.rows c x h run.here same) run.here)
      (arrived_goes set refused (s.now + 1) (s.now + 1) after ok a (omega arith)) in
      let now : next.now ≡ s.now + 1 = arrived_now set (s.now + 1) after in
      record {
        goes = subst (λ (n : ℕ). Goes n s next) (sym now) g;
        at = (record { row = x; here = run.here; job_is = refl; may = may; outcome_is = refl }, refl, now);
      }
  answered_moves x op (Some above) run may e = record {
    goes = subst (λ (n : ℕ). Goes n s (with_wait s x above.holder)) (sym (wait_now s x above.holder)) (wait_goes s x above.holder run.here);
    at = (refl, wait_now s x above.holder);
  }

  asked_moves : (job : JobId) (op : Op) (x : Row) (b : Bool) → Runs set s.rows refused x → MovesTo set s (option_and_then (asked set s op) (cond b (Some x) None))
  asked_moves job op x true run = moves_given set s (may_ask set x op) (answered set s x op (lock_refusal set s x op)) (λ may. answered_moves x op (lock_refusal set s x op) run may refl)
  asked_moves job op x false run = tt

  ask_moves : (job : JobId) (op : Op) (o : Option Row) → running set s.rows ≡ o → MovesTo set s (option_and_then (asked set s op) (option_and_then (of_job job) o))
  ask_moves job op None e = tt
  ask_moves job op (Some x) e = asked_moves job op x (same_job x.job job) (running_is set s.rows refused x (named_from set s.rows ok sound.frame) sound.protocol e)

  idle_at : (o : Option ℕ) → pending s.rows ≡ [] → next_tick s.planned ≡ o → MovesTo set s (option_map (λ t. (Idle s.now t, arrived set t s)) o)
  idle_at None none e = tt
  idle_at (Some t) none e =
      let after : s.now + 1 ≤ t = next_later s.planned (s.now + 1) t e sound.calendar.future in
      let now : (arrived set t s).now ≡ t = arrived_now set t s in
      record {
        goes = subst (λ (n : ℕ). Goes n s (arrived set t s)) (sym now) (arrived_goes set refused t t s ok (idle_early set refused s t sound none e) (omega arith));
        at = (now, omega arith);
      }

  idle_moves : (rows : List Row) → pending s.rows ≡ rows → MovesTo set s (idled set s rows)
  idle_moves [] e = idle_at (next_tick s.planned) e refl
  idle_moves (r ∷ rs) e = tt

  step_moves : (event : Event) → MovesTo set s (step set s event)
  unfolding step
  step_moves (plan tx tick) = moves_given set s (may_plan set s tx tick) (Planned (record { 0 = tx }) tick, with_plan s tx tick) (λ may. record {
    goes = subst (λ (n : ℕ). Goes n s (with_plan s tx tick)) (sym (plan_now s tx tick)) (plan_goes set refused s tx tick ok sound (may_plan_is set s tx tick may));
    at = plan_now s tx tick;
  })
  step_moves (ask job op) = ask_moves job op (running set s.rows) refl
  step_moves idle = idle_moves (pending s.rows) refl

  entry_at : (e : Entry) (o : Option (Entry × State)) → MovesTo set s o → entry_given o ≡ Some e → Moves set s (state_given s o) e
  entry_at e None m h = absurd cc
  entry_at e (Some p) m h = let is : p.0 ≡ e = cc in subst (Moves set s p.1) is m

  pub entry_moves : (e : Entry) → IsLegalEntry set s e → Moves set s (state_after set s e) e
  entry_moves e legal = entry_at e (step set s (event_of e)) (step_moves (event_of e)) legal

-- lists of entries

pub later_at : (set : Set) (s next : State) (e : Entry) → IsAt set s next e → s.now ≤ next.now
later_at set s next (Planned tx tick) h = omega (arith, h)
later_at set s next (Step job op outcome over tick) h = omega (arith, h.2)
later_at set s next (Blocked job op by ceiling tick) h = omega (arith, h.1)
later_at set s next (Idle from to) h = omega (arith, h.0, h.1)

-- an entry is not before an instant, nor after one
abbrev pub IsSince : ℕ → Entry → Type 0
IsSince n (Planned tx tick) = Unit {0}
IsSince n (Step job op outcome over tick) = n ≤ tick
IsSince n (Blocked job op by ceiling tick) = n ≤ tick
IsSince n (Idle from to) = Unit {0}

abbrev pub IsUpTo : ℕ → Entry → Type 0
IsUpTo n (Planned tx tick) = Unit {0}
IsUpTo n (Step job op outcome over tick) = tick < n
IsUpTo n (Blocked job op by ceiling tick) = tick ≤ n
IsUpTo n (Idle from to) = to ≤ n

since_earlier : (n m : ℕ) (e : Entry) → n ≤ m → IsSince m e → IsSince n e
since_earlier n m (Step job op outcome over tick) le h = omega (arith, le, h)
since_earlier n m (Blocked job op by ceiling tick) le h = omega (arith, le, h)
since_earlier n m other le h = tt

up_to_later : (n m : ℕ) (e : Entry) → n ≤ m → IsUpTo n e → IsUpTo m e
up_to_later n m (Planned tx tick) le h = tt
up_to_later n m (Step job op outcome over tick) le h = omega (arith, le, h)
up_to_later n m (Blocked job op by ceiling tick) le h = omega (arith, le, h)
up_to_later n m (Idle from to) le h = omega (arith, le, h)

since_at : (set : Set) (s next : State) (e : Entry) → IsAt set s next e → IsSince s.now e
since_at set s next (Step job op outcome over tick) h = omega (arith, h.1)
since_at set s next (Blocked job op by ceiling tick) h = omega (arith, h.0)
since_at set s next other h = tt

up_to_at : (set : Set) (s next : State) (e : Entry) → IsAt set s next e → IsUpTo next.now e
up_to_at set s next (Planned tx tick) h = tt
up_to_at set s next (Step job op outcome over tick) h = omega (arith, h.1, h.2)
up_to_at set s next (Blocked job op by ceiling tick) h = omega (arith, h.0, h.1)
up_to_at set s next (Idle from to) h = omega (arith, h.0)

-- who took a step is pending or has ended
abbrev pub IsKnown : State → Entry → Type 0
IsKnown s (Planned tx tick) = Unit {0}
IsKnown s (Step job op outcome over tick) = (release : ℕ) × (Pends s job release ⊎ Over s job release)
IsKnown s (Blocked job op by ceiling tick) = Unit {0}
IsKnown s (Idle from to) = Unit {0}

known_still : (n : ℕ) (s next : State) (e : Entry) → Goes n s next → IsKnown s e → IsKnown next e
known_still n s next (Step job op outcome over tick) g h = (h.0, still h.1) where
  still : Pends s job h.0 ⊎ Over s job h.0 → Pends next job h.0 ⊎ Over next job h.0
  still (inl p) = elim (g.goes_on p.row p.here) [
    | inl q ↦ inl (record { row = q.row; here = q.here; job_is = q.job_is ∙ p.job_is; release_is = q.release_is ∙ p.release_is })
    | inr o ↦ inr (record { ended = o.ended; here = o.here; job_is = o.job_is ∙ p.job_is; release_is = o.release_is ∙ p.release_is })
  ]
  still (inr o) = inr (record { ended = o.ended; here = g.kept o.ended o.here; job_is = o.job_is; release_is = o.release_is })
known_still n s next other g h = tt

known_at : (set : Set) (s next : State) (e : Entry) → IsAt set s next e → IsKnown s e
known_at set s next (Step job op outcome over tick) h = (h.0.row.release, inl (record { row = h.0.row; here = h.0.here; job_is = h.0.job_is; release_is = refl }))
known_at set s next other h = tt

-- what a list of legal entries does from a state to the last
pub record Passes (s last : State) (es : List Entry) : Type 0 where
  pub goes : Goes s.now s last
  pub later : s.now ≤ last.now
  pub since : (e : Entry) → In e es → IsSince s.now e
  pub up_to : (e : Entry) → In e es → IsUpTo last.now e
  pub known : (e : Entry) → In e es → IsKnown last e

weaker : (n m : ℕ) (s next : State) → n ≤ m → Goes m s next → Goes n s next
weaker n m s next le g = record { kept = g.kept; new = λ e i. elim (g.new e i) [ inl old ↦ inl old | inr late ↦ inr (omega (arith, le, late)) ]; goes_on = g.goes_on }

pub passes : (set : Set) (refused : JobId → Bool) (s : State) (es : List Entry) → IsCompiled set → Sound set refused (s.now + 1) s → IsLegalFrom set s es → Passes s (states_after set s es) es
passes set refused s [] ok sound legal = record { goes = goes_nowhere s.now s; later = omega arith; since = λ e i. absurd i; up_to = λ e i. absurd i; known = λ e i. absurd i }
passes set refused s (e ∷ es) ok sound legal =
    let next = state_after set s e in
    let last = states_after set next es in
    let m = entry_moves set ok refused s sound e legal.0 in
    let sound' = (entry_goes set refused s e (step set s (event_of e)) (step_goes set ok refused s sound (event_of e)) legal.0).0 in
    let rest = passes set (refused_after refused e) next es ok sound' legal.1 in
    let le : s.now ≤ next.now = later_at set s next e m.at in
    record {
      goes = goes_further s.now next.now s next last le (weaker s.now next.now s next le m.goes) rest.goes;
      later = omega (arith, le, rest.later);
      since = λ q i. elim i [ inl is ↦ subst (IsSince s.now) (sym is) (since_at set s next e m.at) | inr old ↦ since_earlier s.now next.now q le (rest.since q old) ];
      up_to = λ q i. elim i [ inl is ↦ subst (IsUpTo last.now) (sym is) (up_to_later next.now last.now e rest.later (up_to_at set s next e m.at)) | inr old ↦ rest.up_to q old ];
      known = λ q i. elim i [ inl is ↦ subst (IsKnown last) (sym is) (known_still next.now next last e rest.goes (known_still next.now s next e m.goes (known_at set s next e m.at))) | inr old ↦ rest.known q old ];
    }
