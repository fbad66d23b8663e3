-- A serial that a transaction's jobs have reached: no pending and no planned job of it comes before, and none that is to be
-- planned. Every legal entry keeps it.
use Rattle.std.proofs.Common.{◌≡◌, ◌⊎◌, ℕ, ◌+◌, ◌<◌, ◌≤◌, ◌==◌, Bool, true, false, cond, List, [], ◌∷◌, ◌++◌, length, Option, None, Some, set as with_item, refl, ap, sym, ◌∙◌, subst, inl, inr, arith, get_or-set_same, get_or-set_other}
use Rattle.std.proofs.lemmas.Bool.{cases_eq}
use Rattle.std.specs.Option.{option_map, option_and_then}
use Rattle.std.specs.List.{All}
use Rattle.std.proofs.lemmas.List.Elements.{All-tail}
use Rattle.rt_base.specs.declared.ids.JobId.{JobId}
use Rattle.rt_base.specs.declared.operation.Op.{Op}
use Rattle.rt_base.specs.declared.operation.End.{End}
use Rattle.rt_base.specs.declared.release.Plans.{Plans}
use Rattle.rt_base.specs.declared.release.Release.{Release}
use Rattle.txn_set.specs.Set.{Set, IsCompiled}
use Rattle.step_journal.specs.declared.entry.Entry.{Entry}
use Rattle.step_journal.specs.declared.entry.Entry.TheVariants.{Planned, Idle}
use Rattle.step_journal.specs.State.{State, Row, same_job, new_row, pending}
use Rattle.step_journal.specs.LockRule.{Above}
use Rattle.step_journal.specs.Running.{running, of_job}
use Rattle.step_journal.specs.Instant.{with_row, with_end, with_releases, with_cancellations, arrived}
use Rattle.step_journal.specs.Step.{Event, plan, ask, idle, given, plans_of, may_plan, next_job, with_plan, may_ask, lock_refusal, row_after, end_by, settled, after_effect, with_step, with_wait, answered, asked, next_tick, idled, step}
use Rattle.step_journal.specs.History.{event_of, state_given, entry_given, state_after, IsLegalEntry, IsLegal, state_of}
use Rattle.law_histories.proofs.Lists.{all_from}
use Rattle.sim_run.specs.Calls.{IsReached}
use Rattle.board.proofs.Bounds.{arrived_plans}
use Rattle.law_histories.proofs.Members.{In}
use Rattle.law_histories.proofs.Holding.{append_in}
use Rattle.law_histories.proofs.Invariant.{IsPending, Runs, running_is, in_range, written, same_row}
use Rattle.law_histories.proofs.Ends.{left}
use Rattle.law_histories.proofs.Calendar.{Sound, named_from, after_cancelled, due, after_late, after_due, came_at, left_planned, late_rows}
use Rattle.law_histories.proofs.Histories.{may_plan_is, settled_sound, idle_early}
use Rattle.law_histories.proofs.Never.{legal_sound, refused_all}

pub all_at : {A : Type 0} (P : A → Type 0) (xs : List A) → All P xs → (x : A) → In x xs → P x
all_at P [] h x i = absurd i
all_at P (y ∷ ys) h x (inl e) = subst P (sym e) (h 0 y (omega arith))
all_at P (y ∷ ys) h x (inr i) = all_at P ys (All-tail P y ys h) x i

-- the release of this transaction does not come before
abbrev NotBefore : ℕ → ℕ → Release → Type 0
NotBefore n k r = r.job.tx.0 ≡ n → k ≤ r.job.serial

-- a state with the same plans, whose rows and releases have jobs of old rows and releases
from_old : (s s' : State) (n k : ℕ) → s'.plans ≡ s.plans
    → ((y : Row) → IsPending s'.rows y → ((x : Row) × IsPending s.rows x × (y.job ≡ x.job)) ⊎ ((r : Release) × In r s.planned × (y.job ≡ r.job)))
    → ((r : Release) → In r s'.planned → In r s.planned) → IsReached s n k → IsReached s' n k
from_old s s' n k plans rows planned h = record {
  rows = λ y i e. elim (rows y i) [
    | inl x ↦ omega (arith, h.rows x.0 x.1 (sym (ap (λ (j : JobId). j.tx.0) x.2) ∙ e), ap (λ (j : JobId). j.serial) x.2)
    | inr r ↦ omega (arith, all_at (NotBefore n k) s.planned h.planned r.0 r.1 (sym (ap (λ (j : JobId). j.tx.0) r.2) ∙ e), ap (λ (j : JobId). j.serial) r.2)
  ];
  planned = all_from (NotBefore n k) s'.planned (λ r i e. all_at (NotBefore n k) s.planned h.planned r (planned r i) e);
  number = omega (arith, h.number, ap (λ (l : List Plans). (plans_of (record s { plans = l }) n).number) plans);
}

pub arrived_behind : (set : Set) (refused : JobId → Bool) (t : ℕ) (s : State) (n k : ℕ) → IsCompiled set
    → Sound set refused t s → IsReached s n k → IsReached (arrived set t s) n k
unfolding arrived with_releases with_cancellations after_cancelled due late_rows
arrived_behind set refused t s n k ok sound h = from_old s (arrived set t s) n k (arrived_plans set t s)
    (λ y i. elim ((after_due set refused t s ok sound).each y i) [
      | inl b ↦ (let f = (after_late set refused t s ok sound).rows y b in inl (f.was, f.here, f.job))
      | inr c ↦ inr (c.release, (came_at set refused t s ok sound y c).0, ap (λ (q : Row). q.job) c.is)
    ])
    (λ r i. (left_planned set refused t s ok sound r i).0) h

settled_behind : (set : Set) (s : State) (x : Row) (op : Op) (t : ℕ) (o : Option End) (n k : ℕ) → IsPending s.rows x
    → IsReached s n k → IsReached (settled set (row_after s x op) t o s) n k
unfolding with_end
settled_behind set s x op t None n k here h = from_old s (settled set (row_after s x op) t None s) n k refl
    (λ y i. elim (written s.rows x.job.tx.0 (row_after s x op) y (in_range s.rows _ x here) refl i) [
      | inl e ↦ inl (x, here, ap (λ (q : Row). q.job) e)
      | inr o ↦ inl (y, o.1, refl)
    ]) (λ r i. i) h
settled_behind set s x op t (Some e) n k here h = from_old s (settled set (row_after s x op) t (Some e) s) n k refl
    (λ y i. let l = left s.rows x.job y i in inl (l.was, l.here, ap (λ (q : Row). q.job) l.is)) (λ r i. i) h

step_behind : (set : Set) (refused : JobId → Bool) (s : State) (x : Row) (op : Op) (n k : ℕ) → IsCompiled set
    → Sound set refused (s.now + 1) s → Runs set s.rows refused x → lock_refusal set s x op ≡ None
    → IsReached s n k → IsReached (with_step set s x op) n k
unfolding with_step after_effect
step_behind set refused s x op n k ok sound run granted h =
    let effect = settled_sound set refused (s.now + 1) s x op (end_by set (row_after s x op) (s.now + 1) op) ok sound run granted in
    arrived_behind set refused (s.now + 1) (settled set (row_after s x op) (s.now + 1) (end_by set (row_after s x op) (s.now + 1) op) s) n k ok effect
    (settled_behind set s x op (s.now + 1) (end_by set (row_after s x op) (s.now + 1) op) n k run.here h)

wait_behind : (s : State) (x : Row) (j : JobId) (n k : ℕ) → IsPending s.rows x → IsReached s n k
    → IsReached (with_wait s x j) n k
unfolding with_wait
wait_behind s x j n k here h = from_old s (with_wait s x j) n k refl
    (λ y i. elim (written s.rows x.job.tx.0 (record x { waits_on = Some j }) y (in_range s.rows _ x here) refl i) [
      | inl e ↦ inl (x, here, ap (λ (q : Row). q.job) e)
      | inr o ↦ inl (y, o.1, refl)
    ]) (λ r i. i) h

-- a plan

planned_state : State → ℕ → ℕ → List Release → List (Option Row) → State
planned_state s tx tick planned rows = record s { plans = with_item s.plans tx (record { number = (plans_of s tx).number + 1; last = tick }); planned = planned; rows = rows }

module _ (set : Set) (refused : JobId → Bool) (s : State) (tx tick n k : ℕ) (sound : Sound set refused (s.now + 1) s) (in_set : tx < length set.txns) (h : IsReached s n k) where
  number_same : (planned : List Release) (rows : List (Option Row))
      → (plans_of (planned_state s tx tick planned rows) tx).number ≡ (plans_of s tx).number + 1
  unfolding planned_state
  number_same planned rows = ap (λ (p : Plans). p.number) (get_or-set_same s.plans tx (record { number = (plans_of s tx).number + 1; last = tick }) (record { number = 0; last = 0 }) (omega (arith, in_set, sound.calendar.plans_count)))

  number_behind : (planned : List Release) (rows : List (Option Row))
      → k ≤ (plans_of (planned_state s tx tick planned rows) n).number
  unfolding planned_state
  number_behind planned rows = elim (cases_eq n tx) [
    | inl e ↦ omega (arith, h.number, number_same planned rows, ap (λ (m : ℕ). (plans_of s m).number) e, ap (λ (m : ℕ). (plans_of (planned_state s tx tick planned rows) m).number) e)
    | inr ne ↦ omega (arith, h.number, ap (λ (p : Plans). p.number) (get_or-set_other s.plans tx n (record { number = (plans_of s tx).number + 1; last = tick }) (record { number = 0; last = 0 }) ne))
  ]

  new_behind : tx ≡ n → k ≤ (next_job s tx).serial
  new_behind e = omega (arith, h.number, ap (λ (m : ℕ). (plans_of s m).number) e)

  later_behind : IsReached (planned_state s tx tick (s.planned ++ record { job = next_job s tx; tick = tick } ∷ []) s.rows) n k
  unfolding planned_state
  later_behind =
      let r : Release = record { job = next_job s tx; tick = tick } in
      record {
        rows = h.rows;
        planned = all_from (NotBefore n k) (s.planned ++ r ∷ []) (λ q i e. elim (append_in q s.planned (r ∷ []) i) [
          | inl old ↦ all_at (NotBefore n k) s.planned h.planned q old e
          | inr new ↦ elim new [ inl is ↦ omega (arith, new_behind (sym (ap (λ (q : Release). q.job.tx.0) is) ∙ e), ap (λ (q : Release). q.job.serial) is) | inr none ↦ absurd none ]
        ]);
        number = number_behind (s.planned ++ r ∷ []) s.rows;
      }

  at_once_behind : IsReached (planned_state s tx tick s.planned (with_row tick s.rows (next_job s tx))) n k
  unfolding planned_state
  at_once_behind =
      record {
        rows = λ y i e. elim (written s.rows tx (new_row (next_job s tx) tick) y (omega (arith, in_set, sound.frame.count)) refl i) [
          | inl is ↦ omega (arith, new_behind (sym (ap (λ (q : Row). q.job.tx.0) is) ∙ e), ap (λ (q : Row). q.job.serial) is)
          | inr o ↦ h.rows y o.1 e
        ];
        planned = h.planned;
        number = number_behind s.planned (with_row tick s.rows (next_job s tx));
      }

  plan_at : (b : Bool)
      → IsReached (planned_state s tx tick (cond b s.planned (s.planned ++ record { job = next_job s tx; tick = tick } ∷ [])) (cond b (with_row tick s.rows (next_job s tx)) s.rows)) n k
  plan_at true = at_once_behind
  plan_at false = later_behind

  plan_behind : IsReached (with_plan s tx tick) n k
  unfolding with_plan planned_state
  plan_behind = plan_at (tick == s.now)

-- what a legal event gives

abbrev Stays : ℕ → ℕ → Option (Entry × State) → Type 0
Stays n k None = Unit {0}
Stays n k (Some p) = IsReached p.1 n k

stays_given : (n k : ℕ) (b : Bool) (p : Entry × State) → (b ≡ true → IsReached p.1 n k) → Stays n k (given b p)
stays_given n k true p h = h refl
stays_given n k false p h = tt

module _ (set : Set) (ok : IsCompiled set) (refused : JobId → Bool) (s : State) (sound : Sound set refused (s.now + 1) s) (n k : ℕ) (h : IsReached s n k) where
  stays_answered : (x : Row) (op : Op) (o : Option Above) → Runs set s.rows refused x → lock_refusal set s x op ≡ o
      → IsReached (answered set s x op o).1 n k
  stays_answered x op None run e = step_behind set refused s x op n k ok sound run e h
  stays_answered x op (Some above) run e = wait_behind s x above.holder n k run.here h

  stays_asked_at : (job : JobId) (op : Op) (x : Row) (b : Bool) → Runs set s.rows refused x
      → Stays n k (option_and_then (asked set s op) (cond b (Some x) None))
  stays_asked_at job op x true run = stays_given n k (may_ask set x op) (answered set s x op (lock_refusal set s x op)) (λ _. stays_answered x op (lock_refusal set s x op) run refl)
  stays_asked_at job op x false run = tt

  stays_asked : (job : JobId) (op : Op) (o : Option Row) → running set s.rows ≡ o
      → Stays n k (option_and_then (asked set s op) (option_and_then (of_job job) o))
  stays_asked job op None e = tt
  stays_asked job op (Some x) e = stays_asked_at job op x (same_job x.job job) (running_is set s.rows refused x (named_from set s.rows ok sound.frame) sound.protocol e)

  stays_idle_at : (o : Option ℕ) → pending s.rows ≡ [] → next_tick s.planned ≡ o
      → Stays n k (option_map (λ t. (Idle s.now t, arrived set t s)) o)
  stays_idle_at None none e = tt
  stays_idle_at (Some t) none e = arrived_behind set refused t s n k ok (idle_early set refused s t sound none e) h

  stays_idle : (rows : List Row) → pending s.rows ≡ rows → Stays n k (idled set s rows)
  stays_idle [] e = stays_idle_at (next_tick s.planned) e refl
  stays_idle (r ∷ rs) e = tt

  stays : (event : Event) → Stays n k (step set s event)
  unfolding step
  stays (plan tx tick) = stays_given n k (may_plan set s tx tick) (Planned (record { 0 = tx }) tick, with_plan s tx tick) (λ may. plan_behind set refused s tx tick n k sound (may_plan_is set s tx tick may).in_set h)
  stays (ask job op) = stays_asked job op (running set s.rows) refl
  stays idle = stays_idle (pending s.rows) refl

stays_given_by : (s : State) (entry : Entry) (o : Option (Entry × State)) (n k : ℕ) → Stays n k o
    → entry_given o ≡ Some entry → IsReached (state_given s o) n k
stays_given_by s entry None n k h e = absurd cc
stays_given_by s entry (Some p) n k h e = h

-- a legal entry keeps it
pub behind_after : (set : Set) (history : List Entry) (e : Entry) (n k : ℕ) → IsCompiled set → IsLegal set history
    → IsLegalEntry set (state_of set history) e
    → IsReached (state_of set history) n k → IsReached (state_after set (state_of set history) e) n k
behind_after set history e n k ok legal is h =
    let s = state_of set history in
    let sound = legal_sound set history ok legal in
    stays_given_by s e (step set s (event_of e)) n k (stays set ok (refused_all (λ _. false) history) s sound n k h (event_of e)) is

-- it holds of 0, and of the serial of the running job
pub behind_zero : (s : State) (n : ℕ) → IsReached s n 0
behind_zero s n = record { rows = λ y i e. omega arith; planned = all_from (NotBefore n 0) s.planned (λ r i e. omega arith); number = omega arith }

pub behind_running : (set : Set) (history : List Entry) (x : Row) → IsCompiled set → IsLegal set history
    → running set (state_of set history).rows ≡ Some x
    → IsReached (state_of set history) x.job.tx.0 x.job.serial
behind_running set history x ok legal is =
    let s = state_of set history in
    let refused : JobId → Bool = refused_all (λ _. false) history in
    let sound = legal_sound set history ok legal in
    let run = running_is set s.rows refused x (named_from set s.rows ok sound.frame) sound.protocol is in
    record {
      rows = λ y i e. let same : y ≡ x = same_row s.rows y x i run.here e in omega (arith, ap (λ (q : Row). q.job.serial) same);
      planned = all_from (NotBefore x.job.tx.0 x.job.serial) s.planned (λ r i e. let b = sound.calendar.behind x r run.here i (sym e) in omega (arith, b.1));
      number = let b = sound.calendar.released x run.here in omega (arith, b.1);
    }

-- the running job's serial is none that comes before
pub running_past : (set : Set) (history : List Entry) (x : Row) (k : ℕ) → IsCompiled set → IsLegal set history
    → running set (state_of set history).rows ≡ Some x
    → IsReached (state_of set history) x.job.tx.0 k → k ≤ x.job.serial
running_past set history x k ok legal is h =
    let s = state_of set history in
    let refused : JobId → Bool = refused_all (λ _. false) history in
    let sound = legal_sound set history ok legal in
    let run = running_is set s.rows refused x (named_from set s.rows ok sound.frame) sound.protocol is in
    h.rows x run.here refl
