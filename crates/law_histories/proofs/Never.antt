-- After every legal history no jobs wait in a cycle, and where something is pending there is a running job; a job is
-- refused once. By induction on the entries: the invariant holds in the opening state and each event keeps it; a
-- blocker never waits.
use Rattle.std.proofs.Common.{◌≡◌, ◌≢◌, ℕ, zero, suc, ◌+◌, ◌<◌, Bool, true, false, cond, ◌||◌, List, [], ◌∷◌, ◌++◌, length, map, Option, None, Some, get_or, refl, ap, sym, ◌∙◌, subst, arith}
use Rattle.std.proofs.lemmas.List.{length-map}
use Rattle.std.proofs.lemmas.Bool.{and_from, eq-eqb}
use Rattle.std.specs.Option.{option_map, option_and_then}
use Rattle.rt_base.specs.declared.ids.JobId.{JobId}
use Rattle.rt_base.specs.declared.operation.Op.{Op}
use Rattle.step_journal.specs.declared.entry.Entry.{Entry}
use Rattle.step_journal.specs.declared.entry.Entry.TheVariants.{Planned, Step, Blocked, Idle}
use Rattle.txn_set.specs.Set.{Set, IsCompiled}
use Rattle.step_journal.specs.State.{State, Row, same_job, pending, opening}
use Rattle.step_journal.specs.LockRule.{Lock, locks, Above, refusal, needs_lock, highest}
use Rattle.step_journal.specs.Running.{running, followed, of_job, job_row}
use Rattle.step_journal.specs.Instant.{arrived}
use Rattle.step_journal.specs.Step.{Event, plan, ask, idle, given, may_plan, with_plan, may_ask, lock_refusal, with_wait, answered, asked, next_tick, idled, step}
use Rattle.step_journal.specs.History.{event_of, state_given, entry_given, state_after, states_after, IsLegalEntry, IsLegalFrom, IsLegal, state_of}
use Rattle.step_journal.specs.Timing.{WaitsOn, WaitAlong, IsWaitCycle}
use Rattle.law_histories.specs.Protocol.{IsFirstRefusal, is_refusal_of, was_refused, NeverStuck}
use Rattle.law_histories.proofs.Members.{pending_in, highest_is, highest_none}
use Rattle.law_histories.proofs.Invariant.{IsPending, is_any, AreNamed, Protocol, Runs, running_is, refusal_is, in_range, same_row, job_row_is}
use Rattle.law_histories.proofs.Events.{refused_facts, refused_too}
use Rattle.law_histories.proofs.Calendar.{Sound, named_from}
use Rattle.law_histories.proofs.Histories.{step_sound, refusal_sound, idle_sound, plan_sound, may_plan_is, wait_now, plan_now}

-- who was refused, after one more entry
abbrev pub refused_after : (JobId → Bool) → Entry → JobId → Bool
refused_after refused (Blocked job op by ceiling tick) = refused_too refused job
refused_after refused other = refused

-- a refusal is the first of its job, which holds no lock
abbrev pub IsFirst : (JobId → Bool) → State → Entry → Type 0
IsFirst refused s (Blocked job op by ceiling tick) = (refused job ≡ false) × ((row : Row) → job_row s.rows job ≡ Some row → locks row.work ≡ [])
IsFirst refused s (Planned tx tick) = Unit {0}
IsFirst refused s (Step job op outcome over tick) = Unit {0}
IsFirst refused s (Idle from to) = Unit {0}

-- what a legal event gives is sound
abbrev pub Goes : Set → (JobId → Bool) → State → Option (Entry × State) → Type 0
Goes set refused s None = Unit {0}
Goes set refused s (Some p) = Sound set (refused_after refused p.0) (p.1.now + 1) p.1 × IsFirst refused s p.0

goes_given : (set : Set) (refused : JobId → Bool) (s : State) (b : Bool) (p : Entry × State) → (b ≡ true → Goes set refused s (Some p)) → Goes set refused s (given b p)
goes_given set refused s true p h = h refl
goes_given set refused s false p h = tt

no_locks : (ls : List Lock) → is_any ls ≡ false → ls ≡ []
no_locks [] h = refl
no_locks (l ∷ ls) h = absurd cc

pub refusal_at : (set : Set) (s : State) (x : Row) (above : Above) (b : Bool) → option_and_then (λ r. refusal set s.rows r) (given b x) ≡ Some above → refusal set s.rows x ≡ Some above
refusal_at set s x above true h = h
refusal_at set s x above false h = absurd cc

module _ (set : Set) (ok : IsCompiled set) (refused : JobId → Bool) (s : State) (sound : Sound set refused (s.now + 1) s) where
  goes_answered : (x : Row) (op : Op) (o : Option Above) → Runs set s.rows refused x → lock_refusal set s x op ≡ o → Goes set refused s (Some (answered set s x op o))
  goes_answered x op None run e = (step_sound set refused s x op ok sound run e, tt)
  goes_answered x op (Some above) run e =
      let h : refusal set s.rows x ≡ Some above = refusal_at set s x above (needs_lock x.work op) e in
      let named = named_from set s.rows ok sound.frame in
      let facts = refused_facts set s.rows refused x above named sound.protocol run (refusal_is set s.rows x above named h) in
      let r = refusal_sound set refused s x above ok sound run h in (
        subst (λ (n : ℕ). Sound set (refused_too refused x.job) (n + 1) (with_wait s x above.holder)) (sym (wait_now s x above.holder)) r,
        (
          facts.first,
          λ row is.
              let j = job_row_is s.rows x.job row is in
              let same : row ≡ x = same_row s.rows row x j.0 run.here (ap (λ (k : JobId). k.tx.0) j.1) in
              ap (λ (q : Row). locks q.work) same ∙ no_locks _ facts.no_lock,
        ),
      )

  goes_asked_at : (job : JobId) (op : Op) (x : Row) (b : Bool) → Runs set s.rows refused x → Goes set refused s (option_and_then (asked set s op) (cond b (Some x) None))
  goes_asked_at job op x true run = goes_given set refused s (may_ask set x op) (answered set s x op (lock_refusal set s x op)) (λ _. goes_answered x op (lock_refusal set s x op) run refl)
  goes_asked_at job op x false run = tt

  goes_asked : (job : JobId) (op : Op) (o : Option Row) → running set s.rows ≡ o → Goes set refused s (option_and_then (asked set s op) (option_and_then (of_job job) o))
  goes_asked job op None e = tt
  goes_asked job op (Some x) e = goes_asked_at job op x (same_job x.job job) (running_is set s.rows refused x (named_from set s.rows ok sound.frame) sound.protocol e)

  goes_idle_at : (o : Option ℕ) → pending s.rows ≡ [] → next_tick s.planned ≡ o → Goes set refused s (option_map (λ t. (Idle s.now t, arrived set t s)) o)
  goes_idle_at None e n = tt
  goes_idle_at (Some t) e n = (idle_sound set refused s t ok sound e n, tt)

  goes_idle : (rows : List Row) → pending s.rows ≡ rows → Goes set refused s (idled set s rows)
  goes_idle [] e = goes_idle_at (next_tick s.planned) e refl
  goes_idle (r ∷ rs) e = tt

  pub step_goes : (event : Event) → Goes set refused s (step set s event)
  unfolding step
  step_goes (plan tx tick) = goes_given set refused s (may_plan set s tx tick) (Planned (record { 0 = tx }) tick, with_plan s tx tick) (λ may.
      (subst (λ (n : ℕ). Sound set refused (n + 1) (with_plan s tx tick)) (sym (plan_now s tx tick)) (plan_sound set refused s tx tick ok sound (may_plan_is set s tx tick may)), tt))
  step_goes (ask job op) = goes_asked job op (running set s.rows) refl
  step_goes idle = goes_idle (pending s.rows) refl

-- whole histories

pub entry_goes : (set : Set) (refused : JobId → Bool) (s : State) (entry : Entry) (o : Option (Entry × State)) → Goes set refused s o → entry_given o ≡ Some entry
    → Sound set (refused_after refused entry) ((state_given s o).now + 1) (state_given s o) × IsFirst refused s entry
entry_goes set refused s entry None g h = absurd cc
entry_goes set refused s entry (Some p) g h =
    let e : p.0 ≡ entry = cc in
    (subst (λ (q : Entry). Sound set (refused_after refused q) (p.1.now + 1) p.1) e g.0, subst (IsFirst refused s) e g.1)

abbrev pub refused_all : (JobId → Bool) → List Entry → JobId → Bool
refused_all refused [] = refused
refused_all refused (e ∷ es) = refused_all (refused_after refused e) es

pub history_goes : (set : Set) (refused : JobId → Bool) (s : State) (entries : List Entry) → IsCompiled set → Sound set refused (s.now + 1) s → IsLegalFrom set s entries
    → Sound set (refused_all refused entries) ((states_after set s entries).now + 1) (states_after set s entries)
history_goes set refused s [] ok sound legal = sound
history_goes set refused s (e ∷ es) ok sound legal =
    history_goes set (refused_after refused e) (state_after set s e) es ok (entry_goes set refused s e (step set s (event_of e)) (step_goes set ok refused s sound (event_of e)) legal.0).0 legal.1

pub nothing_at : {A : Type 0} (xs : List A) (n : ℕ) (x : Row) → get_or (map (λ t. None) xs) n None ≡ Some x → ⊥
nothing_at [] n x h = cc
nothing_at (a ∷ xs) zero x h = cc
nothing_at (a ∷ xs) (suc n) x h = nothing_at xs n x h

pub opening_sound : (set : Set) → Sound set (λ _. false) ((opening set).now + 1) (opening set)
unfolding opening
opening_sound set = record {
  frame = record { count = length-map set.txns (λ t. None); named = λ n x h. absurd (nothing_at set.txns n x h) };
  protocol = record {
    ordered = λ x y hx hy h lt. absurd (nothing_at set.txns x.job.tx.0 x hx);
    waiter_holds_nothing = λ x j hx h. absurd (nothing_at set.txns x.job.tx.0 x hx);
    wait_has_ceiling = λ x j hx h. absurd (nothing_at set.txns x.job.tx.0 x hx);
    others_below = λ x z hx hz h lt ne. absurd (nothing_at set.txns x.job.tx.0 x hx);
  };
  calendar = record {
    alive = λ x h. absurd (nothing_at set.txns x.job.tx.0 x h);
    future = λ r i. absurd i;
    in_set = λ r i. absurd i;
    spaced = tt;
    behind = λ x r h i e. absurd i;
    planned = λ r i. absurd i;
    released = λ x h. absurd (nothing_at set.txns x.job.tx.0 x h);
    fresh = λ r i. absurd i;
    asked = λ j h. absurd cc;
    plans_count = length-map set.txns (λ t. record { number = 0; last = 0 });
  };
}

pub legal_sound : (set : Set) (entries : List Entry) → IsCompiled set → IsLegal set entries → Sound set (refused_all (λ _. false) entries) ((state_of set entries).now + 1) (state_of set entries)
legal_sound set entries ok legal = history_goes set (λ _. false) (opening set) entries ok (opening_sound set) legal

-- no cycle

pub waiter : (rows : List (Option Row)) (a b : JobId) (o : Option Row) → job_row rows a ≡ o → option_and_then (λ r. r.waits_on) o ≡ Some b → (x : Row) × IsPending rows x × (x.job ≡ a) × (x.waits_on ≡ Some b)
waiter rows a b None e h = absurd cc
waiter rows a b (Some x) e h = let j = job_row_is rows a x e in (x, j.0, j.1, h)

no_chain : (set : Set) (refused : JobId → Bool) (s : State) (a b c : JobId) → Protocol set s.rows refused → WaitsOn s a b → WaitsOn s b c → ⊥
no_chain set refused s a b c inv ab bc =
    let x = waiter s.rows a b (job_row s.rows a) refl ab in
    let y = waiter s.rows b c (job_row s.rows b) refl bc in
    let bl = inv.wait_has_ceiling x.0 b x.1 x.3 in
    let same : y.0 ≡ bl.blocker = same_row s.rows y.0 bl.blocker y.1 bl.here (ap (λ (k : JobId). k.tx.0) (y.2 ∙ sym bl.is)) in
    let n : Some c ≡ None = sym y.3 ∙ (ap (λ (r : Row). r.waits_on) same ∙ bl.runs) in
    cc (n)

along_first : (s : State) (a : JobId) (rest : List JobId) (last : JobId) → WaitAlong s a rest last → (c : JobId) × WaitsOn s a c
along_first s a [] last h = (last, h)
along_first s a (b ∷ rest) last h = (b, h.0)

pub no_cycle : (set : Set) (refused : JobId → Bool) (s : State) (jobs : List JobId) → Protocol set s.rows refused → ¬ IsWaitCycle s jobs
no_cycle set refused s [] inv h = h
no_cycle set refused s (a ∷ []) inv h = no_chain set refused s a a a inv h h
no_cycle set refused s (a ∷ b ∷ rest) inv h = let c = along_first s b rest a h.1 in no_chain set refused s a b c.0 inv h.0 c.1

-- the running job exists

job_row_here : (rows : List (Option Row)) (y : Row) (j : JobId) → IsPending rows y → y.job ≡ j → job_row rows j ≡ Some y
job_row_here rows y j h e =
    subst (λ (k : JobId). job_row rows k ≡ Some y) e (ap (option_and_then (of_job y.job)) h ∙ own y (same_job y.job y.job) (and_from _ _ (eq-eqb y.job.tx.0 y.job.tx.0 refl) (eq-eqb y.job.serial y.job.serial refl))) where
      own : (y : Row) (b : Bool) → b ≡ true → cond b (Some y) None ≡ Some y
      own y true e = refl
      own y false e = absurd cc

followed_some : (set : Set) (rows : List (Option Row)) (refused : JobId → Bool) (n : ℕ) (h : Row) (o : Option JobId) → Protocol set rows refused → IsPending rows h → h.waits_on ≡ o → 0 < n → followed rows n h o ≢ None
followed_some set rows refused n h None inv here e pos none = cc
followed_some set rows refused zero h (Some j) inv here e pos none = omega arith
followed_some set rows refused (suc n) h (Some j) inv here e pos none =
    let bl = inv.wait_has_ceiling h j here e in
    let r : job_row rows j ≡ Some bl.blocker = job_row_here rows bl.blocker j bl.here bl.is in
    let at : option_and_then (λ (r : Row). followed rows n r r.waits_on) (Some bl.blocker) ≡ None = subst (λ (o : Option Row). option_and_then (λ (r : Row). followed rows n r r.waits_on) o ≡ None) r none in
    let last : followed rows n bl.blocker None ≡ None = subst (λ (o : Option JobId). followed rows n bl.blocker o ≡ None) bl.runs at in
    cc

runs_at : (set : Set) (rows : List (Option Row)) (refused : JobId → Bool) (o : Option Row) → AreNamed set rows → Protocol set rows refused → highest set (pending rows) ≡ o
    → option_and_then (λ r. followed rows (length rows) r r.waits_on) o ≡ None → pending rows ≡ []
runs_at set rows refused None named inv e h = highest_none set (pending rows) e
runs_at set rows refused (Some x) named inv e h =
    let at = pending_in rows x (highest_is set (pending rows) x e).here in
    let here : IsPending rows x = subst (λ (k : ℕ). get_or rows k None ≡ Some x) (sym (named.named at.0 x at.1)) at.1 in
    absurd (followed_some set rows refused (length rows) x x.waits_on inv here refl (omega (arith, in_range rows _ x here)) h)

pub running_none : (set : Set) (rows : List (Option Row)) (refused : JobId → Bool) → AreNamed set rows → Protocol set rows refused → running set rows ≡ None → pending rows ≡ []
unfolding running
running_none set rows refused named inv h = runs_at set rows refused (highest set (pending rows)) named inv refl h

pub never_stuck : (set : Set) (entries : List Entry) → IsCompiled set → IsLegal set entries → NeverStuck set (state_of set entries)
never_stuck set entries ok legal =
    let sound = legal_sound set entries ok legal in
    record {
      no_cycle = λ jobs. no_cycle set (refused_all (λ _. false) entries) (state_of set entries) jobs sound.protocol;
      runs = running_none set (state_of set entries).rows (refused_all (λ _. false) entries) (named_from set (state_of set entries).rows ok sound.frame) sound.protocol;
    }

-- refused once

legal_parts : (set : Set) (s : State) (es : List Entry) (e : Entry) → IsLegalFrom set s (es ++ e ∷ []) → IsLegalFrom set s es × IsLegalEntry set (states_after set s es) e
legal_parts set s [] e h = (tt, h.0)
legal_parts set s (x ∷ es) e h = let r = legal_parts set (state_after set s x) es e h.1 in ((h.0, r.0), r.1)

after_is : (refused : JobId → Bool) (e : Entry) (j : JobId) → refused_after refused e j ≡ (refused j || is_refusal_of j e)
after_is refused (Blocked job op by ceiling tick) j = refl
after_is refused other j = or_none (refused j) where
  or_none : (b : Bool) → b ≡ (b || false)
  or_none true = refl
  or_none false = refl

or_assoc : (a b c : Bool) → ((a || b) || c) ≡ (a || (b || c))
or_assoc true b c = refl
or_assoc false b c = refl

all_is : (refused : JobId → Bool) (es : List Entry) (j : JobId) → refused_all refused es j ≡ (refused j || was_refused es j)
all_is refused [] j = or_none (refused j) where
  or_none : (b : Bool) → b ≡ (b || false)
  or_none true = refl
  or_none false = refl
all_is refused (e ∷ es) j = all_is (refused_after refused e) es j ∙ (ap (λ (b : Bool). b || was_refused es j) (after_is refused e j) ∙ or_assoc (refused j) (is_refusal_of j e) (was_refused es j))

pub refused_once : (set : Set) (entries : List Entry) (job on : JobId) (op : Op) (ceiling tick : ℕ) → IsCompiled set → IsLegal set (entries ++ Blocked job op on ceiling tick ∷ [])
    → IsFirstRefusal set entries job
refused_once set entries job on op ceiling tick ok legal =
    let parts = legal_parts set (opening set) entries (Blocked job op on ceiling tick) legal in
    let sound = legal_sound set entries ok parts.0 in
    let refused : JobId → Bool = refused_all (λ _. false) entries in
    let g = entry_goes set refused (state_of set entries) (Blocked job op on ceiling tick) (step set (state_of set entries) (ask job op)) (step_goes set ok refused (state_of set entries) sound (ask job op)) parts.1 in
    record { first = sym (all_is (λ _. false) entries job) ∙ g.1.0; no_lock = g.1.1 }
