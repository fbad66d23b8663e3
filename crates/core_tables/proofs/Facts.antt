-- What is known of the state after a legal history.
use Rattle.std.proofs.Common.{◌≡◌, ℕ, ◌+◌, ◌^◌, ◌<◌, ◌≤◌, ◌==◌, Bool, true, false, cond, List, [], ◌∷◌, ◌++◌, length, Option, None, Some, get_or, refl, sym, subst, inl, inr, arith}
use Rattle.std.proofs.lemmas.Bool.{eq-eqb, cases_lt}
use Rattle.std.specs.List.{filter}
use Rattle.rt_base.specs.declared.ids.JobId.{JobId}
use Rattle.rt_base.specs.declared.operation.Op.{Op}
use Rattle.rt_base.specs.declared.operation.End.{End}
use Rattle.rt_base.specs.declared.release.Release.{Release}
use Rattle.txn_set.specs.Set.{Set, IsCompiled}
use Rattle.step_journal.specs.declared.entry.Entry.{Entry}
use Rattle.step_journal.specs.declared.entry.EndedJob.{EndedJob}
use Rattle.step_journal.specs.State.{State, Row, pending}
use Rattle.step_journal.specs.Running.{running}
use Rattle.step_journal.specs.Instant.{is_due, with_end}
use Rattle.step_journal.specs.Step.{plans_of, row_after, end_by, settled, after_effect, with_step, end_of, next_tick, earlier}
use Rattle.step_journal.specs.History.{IsLegal, state_of}
use Rattle.law_histories.proofs.Members.{In}
use Rattle.law_histories.proofs.Invariant.{IsPending, Runs, running_is, in_range}
use Rattle.law_histories.proofs.Calendar.{Sound, named_from, times_at, apart_due, deadline_le}
use Rattle.law_histories.proofs.Histories.{settled_sound, idle_early}
use Rattle.law_histories.proofs.Never.{legal_sound, refused_all, never_stuck}
use Rattle.law_histories.proofs.DelayAll.{legal_delay}
use Rattle.board.specs.Answers.{ended_number}
use Rattle.board.specs.Over.{over_of}
use Rattle.board.proofs.Asks.{running_here}
use Rattle.board.proofs.Bounds.{plans_early, pending_early}
use Rattle.board.proofs.Counts.{items_count}
use Rattle.board.proofs.Ended.{ended_few}
use Rattle.board.proofs.Overs.{over_after}
use Rattle.core_tables.specs.Legal.{IsLegalState, IsGranted, IsIdle}
use Rattle.core_tables.specs.Arriving.{CanArrive}

pub record Known (set : Set) (s : State) : Type 0 where
  pub compiled : IsCompiled set
  pub refused : JobId → Bool
  pub sound : Sound set refused (s.now + 1) s
  pub items : length s.items ≡ length set.items
  pub used : (x : Row) → IsPending s.rows x → x.used < 2 ^ 62
  pub early : (x : Row) → IsPending s.rows x → s.now + 1 ≤ 2 ^ 40 + 2 ^ 30
  pub plans : (n : ℕ) → (plans_of s n).last ≤ 2 ^ 40
  pub few : (n : ℕ) → ended_number s.ended n < 2 ^ 32
  pub here : (x : Row) → running set s.rows ≡ Some x → IsPending s.rows x
  pub over : (x : Row) (op : Op) → running set s.rows ≡ Some x → over_of (end_by set (row_after s x op) (s.now + 1) op) (is_due set (s.now + 1) x) ≡ end_of (with_step set s x op) x.job
  pub stuck : running set s.rows ≡ None → pending s.rows ≡ []

known_history : (set : Set) (history : List Entry) → IsCompiled set → IsLegal set history → Known set (state_of set history)
known_history set history ok legal =
    let sound = legal_sound set history ok legal in
    record {
      compiled = ok;
      refused = refused_all (λ _. false) history;
      sound = sound;
      items = items_count set history;
      used = λ x here.
          let lt : x.job.tx.0 < length set.txns = omega (arith, in_range (state_of set history).rows x.job.tx.0 x here, sound.frame.count) in
          omega (arith, (legal_delay set history ok legal).used x here, (times_at set x.job.tx.0 ok lt).steps.1);
      early = λ x here. pending_early set history x ok legal here;
      plans = plans_early set history;
      few = λ n. ended_few set history n ok legal;
      here = running_here set history ok legal;
      over = λ x op runs. over_after set history x op ok legal runs;
      stuck = (never_stuck set history ok legal).runs;
    }

pub known : (set : Set) (s : State) → IsLegalState set s → Known set s
known set s is = subst (Known set) (sym is.is) (known_history set is.history is.compiled is.legal)

-- before the events of a tick

pub can_arrive : (set : Set) (refused : JobId → Bool) (tick : ℕ) (s : State) → IsCompiled set → Sound set refused tick s → tick < 2 ^ 63 → ((n : ℕ) → ended_number s.ended n < 2 ^ 33) → CanArrive set tick s
can_arrive set refused tick s ok sound low few = record {
  low = low;
  frame = sound.frame;
  in_set = sound.calendar.in_set;
  over = λ r x i at h.
      let own : x.job.tx.0 ≡ r.job.tx.0 = sound.frame.named r.job.tx.0 x h in
      let here : IsPending s.rows x = subst (λ (k : ℕ). get_or s.rows k None ≡ Some x) (sym own) h in
      let behind = sound.calendar.behind x r here i own in
      eq-eqb _ _ (omega (arith, behind.0, sound.calendar.alive x here, deadline_le set s.rows x ok sound.frame here, at));
  apart = apart_due set tick s.planned (λ r i. (times_at set r.job.tx.0 ok (sound.calendar.in_set r i)).period.0) sound.calendar.spaced;
  few = few;
}

-- after the effect of a granted step

one_more_at : (x : EndedJob) (l : List EndedJob) (b : Bool) → length (cond b (x ∷ l) l) ≤ length l + 1
one_more_at x l true = omega arith
one_more_at x l false = omega arith

same_more_at : (x : EndedJob) (l m : List EndedJob) (b : Bool) → length l ≤ length m + 1 → length (cond b (x ∷ l) l) ≤ length (cond b (x ∷ m) m) + 1
same_more_at x l m true h = omega (arith, h)
same_more_at x l m false h = h

pub number_more : (ended : List EndedJob) (e : EndedJob) (n : ℕ) → ended_number (ended ++ e ∷ []) n ≤ ended_number ended n + 1
number_more [] e n = one_more_at e [] (e.job.tx.0 == n)
number_more (x ∷ xs) e n = same_more_at x (filter (λ (q : EndedJob). q.job.tx.0 == n) (xs ++ e ∷ [])) (filter (λ (q : EndedJob). q.job.tx.0 == n) xs) (x.job.tx.0 == n) (number_more xs e n)

settled_few : (set : Set) (row : Row) (tick : ℕ) (o : Option End) (s : State) (n : ℕ) → ended_number (settled set row tick o s).ended n ≤ ended_number s.ended n + 1
unfolding with_end
settled_few set row tick None s n = omega arith
settled_few set row tick (Some e) s n = number_more s.ended (record { job = row.job; release = row.release; end = e; tick = tick }) n

pub granted_runs : (set : Set) (s : State) (job : JobId) (op : Op) (k : Known set s) (g : IsGranted set s job op) → Runs set s.rows k.refused g.row
granted_runs set s job op k g = running_is set s.rows k.refused g.row (named_from set s.rows k.compiled k.sound.frame) k.sound.protocol g.runs

pub effect_arrives : (set : Set) (s : State) (job : JobId) (op : Op) → Known set s → (g : IsGranted set s job op) → CanArrive set (s.now + 1) (after_effect set s g.row op)
unfolding after_effect
effect_arrives set s job op k g =
    can_arrive set k.refused (s.now + 1) _ k.compiled
    (settled_sound set k.refused (s.now + 1) s g.row op (end_by set (row_after s g.row op) (s.now + 1) op) k.compiled k.sound (granted_runs set s job op k g) g.free)
    (omega (arith, k.early g.row (k.here g.row g.runs)))
    (λ n. omega (arith, k.few n, settled_few set (row_after s g.row op) (s.now + 1) (end_by set (row_after s g.row op) (s.now + 1) op) s n))

-- with nothing pending

next_in_at : (r : Release) (rs : List Release) (to : ℕ) (o : Option ℕ) → ((t : ℕ) → o ≡ Some t → (q : Release) × In q rs × (q.tick ≡ t)) → Some (earlier r.tick o) ≡ Some to → (q : Release) × In q (r ∷ rs) × (q.tick ≡ to)
next_in_at r rs to None h e = (r, inl refl, cc)
next_in_at r rs to (Some u) h e =
    elim (cases_lt u r.tick) [
      | inl lt ↦ (let q = h u refl in let is : earlier r.tick (Some u) ≡ to = cc in (q.0, inr q.1, omega (arith, q.2, is)))
      | inr ge ↦ (let is : earlier r.tick (Some u) ≡ to = cc in (r, inl refl, omega (arith, is)))
    ]

next_in : (planned : List Release) (to : ℕ) → next_tick planned ≡ Some to → (q : Release) × In q planned × (q.tick ≡ to)
next_in [] to e = absurd cc
next_in (r ∷ rs) to e = next_in_at r rs to (next_tick rs) (λ t is. next_in rs t is) e

pub idle_arrives : (set : Set) (s : State) (to : ℕ) → Known set s → IsIdle set s to → CanArrive set to s
idle_arrives set s to k i =
    let q = next_in s.planned to i.next in
    let p = k.sound.calendar.planned q.0 q.1 in
    can_arrive set k.refused to s k.compiled (idle_early set k.refused s to k.sound i.none i.next)
    (omega (arith, p.0, k.plans q.0.job.tx.0, q.2))
    (λ n. omega (arith, k.few n))
