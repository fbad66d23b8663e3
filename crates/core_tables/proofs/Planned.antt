-- A plan: its release is noted, or takes place at once.
use Rattle.std.proofs.Common.{◌≡◌, ◌≢◌, ℕ, ◌+◌, ◌<◌, ◌≤◌, ◌==◌, Bool, true, false, cond, List, [], ◌∷◌, ◌++◌, length, Option, None, Some, Result, Ok, get_or, set as with_item, refl, ap, sym, ◌∙◌, subst, inl, inr, arith}
use Rattle.std.proofs.lemmas.Bool.{eqb-true, eq-eqb, ne_eqb, and_parts, and_from}
use Rattle.std.proofs.lemmas.List.{length-map}
use Rattle.std.specs.Prelude.{MatchOption}
use Rattle.rt_base.specs.declared.ids.JobId.{JobId}
use Rattle.rt_base.specs.declared.release.Plans.{Plans}
use Rattle.rt_base.specs.declared.release.Release.{Release}
use Rattle.rt_base.specs.declared.release.PlanRefused.{PlanRefused}
use Rattle.rt_base.specs.Planning.{calendar_refusal}
use Rattle.release_calendar.specs.Agenda.{Agenda, Holds, IsPlanned, NothingDue, IsDue, SamePlans, refusal, plans_of as plans_by, next_job as job_by, same_release, without, left}
use Rattle.txn_set.specs.Set.{Set, txn_of}
use Rattle.step_journal.specs.State.{State, Row, row_of}
use Rattle.step_journal.specs.Instant.{with_row}
use Rattle.step_journal.specs.Step.{plans_of, earliest, next_job, with_plan}
use Rattle.law_histories.proofs.Members.{In}
use Rattle.law_histories.proofs.Holding.{in_right, append_in}
use Rattle.law_histories.proofs.Invariant.{IsPending}
use Rattle.law_histories.proofs.Calendar.{row_none, times_at}
use Rattle.board.specs.Answers.{most_planned, plan_reply, unless_refused}
use Rattle.board.proofs.More.{Passes, passes}
use Rattle.law_histories.proofs.SerialAll.{noted}
use Rattle.core_tables.specs.Rows.{PendingSeen}
use Rattle.core_tables.specs.Seen.{TablesSeen}
use Rattle.core_tables.specs.Tables.{AreTables}
use Rattle.core_tables.specs.Legal.{IsLegalState}
use Rattle.core_tables.proofs.Facts.{known}
use Rattle.core_tables.proofs.Plans.{refusal_at, plans_at}
use Rattle.core_tables.proofs.Releases.{due_in, all_in, one}

-- an answer Ok tells that the calendar does not refuse

peeled : (o : Option PlanRefused) (rest : Result JobId PlanRefused) (job : JobId) → unless_refused o rest ≡ Ok job → o ≡ None
peeled None rest job h = refl
peeled (Some e) rest job h = absurd cc

pub plan_free : (set : Set) (t : TablesSeen) (s : State) (kept room tx tick : ℕ) (job : JobId) → AreTables set t s → plan_reply set s kept room tx tick ≡ Ok job → refusal t.calendar tx tick t.clock ≡ None
plan_free set t s kept room tx tick job a h =
    refusal_at set t s tx tick a ∙ peeled (calendar_refusal tick s.now (earliest set tx (plans_of s tx)) (length s.planned) most_planned (plans_of s tx).number) _ job h

-- and where it does not refuse, no bound is passed
pub bounds : (set : Set) (t : TablesSeen) (s : State) (tx tick : ℕ) → AreTables set t s → refusal t.calendar tx tick t.clock ≡ None
    → Passes tick s.now (earliest set tx (plans_of s tx)) (length s.planned) 0 1 (plans_of s tx).number
bounds set t s tx tick a h =
    (passes tick s.now (earliest set tx (plans_of s tx)) (length s.planned) 0 1 (next_job s tx) (next_job s tx)
    (ap (λ (o : Option PlanRefused). unless_refused o (Ok (next_job s tx))) (sym (refusal_at set t s tx tick a) ∙ h))).0

-- for another tick

abbrev with_at : State → ℕ → ℕ → Bool → State
with_at s tx tick b = record s {
  plans = with_item s.plans tx (noted s tx tick);
  planned = cond b s.planned (s.planned ++ one (next_job s tx) tick ∷ []);
  rows = cond b (with_row tick s.rows (next_job s tx)) s.rows;
}

with_plan_is : (s : State) (tx tick : ℕ) (b : Bool) → (tick == s.now) ≡ b → with_at s tx tick b ≡ with_plan s tx tick
unfolding with_plan
with_plan_is s tx tick b e = ap (with_at s tx tick) (sym e)

jobs_at : (set : Set) (t : TablesSeen) (s : State) (tx : ℕ) → AreTables set t s → job_by t.calendar tx ≡ next_job s tx
jobs_at set t s tx a = ap (λ (p : Plans). record { tx = record { 0 = tx }; serial = p.number }) (plans_at set t s tx a)

plans_after : (set : Set) (t : TablesSeen) (s : State) (tx tick : ℕ) → AreTables set t s
    → with_item t.calendar.plans tx (record { number = (plans_by t.calendar tx).number + 1; last = tick }) ≡ with_item s.plans tx (noted s tx tick)
plans_after set t s tx tick a =
    ap (λ (p : Plans). with_item t.calendar.plans tx (record { number = p.number + 1; last = tick })) (plans_at set t s tx a)
    ∙ ap (λ (l : List Plans). with_item l tx (noted s tx tick)) a.plans

held : (set : Set) (t : TablesSeen) (s : State) (calendar : Agenda) (tx tick : ℕ) → AreTables set t s → IsPlanned t.calendar calendar tx tick → Holds calendar (s.planned ++ one (next_job s tx) tick ∷ [])
held set t s calendar tx tick a is =
    subst (λ (j : JobId). Holds calendar (s.planned ++ one j tick ∷ [])) (jobs_at set t s tx a) (is.planned s.planned a.planned)

pub planned_later : (set : Set) (t : TablesSeen) (s : State) (calendar : Agenda) (tx tick : ℕ) → AreTables set t s → IsPlanned t.calendar calendar tx tick → tick ≢ t.clock
    → AreTables set (record t { calendar = calendar }) (with_plan s tx tick)
planned_later set t s calendar tx tick a is ne =
    let other : (tick == s.now) ≡ false = ne_eqb tick s.now (λ e. ne (e ∙ sym a.now)) in
    let after : AreTables set (record t { calendar = calendar }) (with_at s tx tick false) = record {
      now = a.now;
      items = a.items;
      periods = is.periods ∙ a.periods;
      room = is.room ∙ a.room;
      plans = is.plans ∙ plans_after set t s tx tick a;
      planned = held set t s calendar tx tick a is;
      rows = a.rows;
      tallies = a.tallies;
    } in
    subst (AreTables set (record t { calendar = calendar })) (with_plan_is s tx tick false other) after

-- for the present tick

differs : (r q : Release) → q.tick ≢ r.tick → (b : Bool) → same_release r q ≡ b → b ≡ false
differs r q ne true e = absurd (let p = and_parts _ (r.tick == q.tick) e in ne (sym (eqb-true _ _ p.1)))
differs r q ne false e = refl

same_self : (r : Release) (b : Bool) → same_release r r ≡ b → b ≡ true
same_self r true e = refl
same_self r false e = absurd (let t : same_release r r ≡ true = same_release_self r in cc) where
  same_release_self : (r : Release) → same_release r r ≡ true
  same_release_self r =
      and_from _ _ (and_from _ _ (eq-eqb r.job.tx.0 r.job.tx.0 refl) (eq-eqb r.job.serial r.job.serial refl)) (eq-eqb r.tick r.tick refl)

without_last : (r : Release) (planned : List Release) → ((q : Release) → In q planned → q.tick ≢ r.tick) → without r (planned ++ r ∷ []) ≡ planned
without_last r [] ne = ap (λ (b : Bool). cond {A = List Release} b [] (r ∷ [])) (same_self r (same_release r r) refl)
without_last r (q ∷ qs) ne =
    ap (λ (b : Bool). cond b (qs ++ r ∷ []) (q ∷ without r (qs ++ r ∷ []))) (differs r q (ne q (inl refl)) (same_release r q) refl)
    ∙ ap (λ (l : List Release). q ∷ l) (without_last r qs (λ k i. ne k (inr i)))

taken_at : (calendar rest : Agenda) (planned : List Release) (job : JobId) (tick : ℕ) (o : Option JobId) → ((q : Release) → In q planned → q.tick ≢ tick)
    → MatchOption o (NothingDue tick (planned ++ one job tick ∷ [])) (IsDue tick (planned ++ one job tick ∷ [])) → Holds rest (left tick o (planned ++ one job tick ∷ [])) → Holds rest planned
taken_at calendar rest planned job tick None ne due holds =
    absurd (all_in (λ (q : Release). q.tick ≢ tick) (planned ++ one job tick ∷ []) due (one job tick) (in_right (one job tick) planned (one job tick ∷ []) (inl refl)) refl)
taken_at calendar rest planned job tick (Some other) ne due holds =
    elim (append_in (one other tick) planned (one job tick ∷ []) (due_in tick (planned ++ one job tick ∷ []) other due)) [
      | inl old ↦ absurd (ne (one other tick) old refl)
      | inr new ↦ elim new [
        | inl is ↦ subst (Holds rest)
            (ap (λ (q : Release). without q (planned ++ one job tick ∷ [])) is ∙ without_last (one job tick) planned ne) holds
        | inr none ↦ absurd none
      ]
    ]

pub planned_now : (set : Set) (t : TablesSeen) (s : State) (calendar rest : Agenda) (pending : PendingSeen) (o : Option JobId) (tx tick serial : ℕ) → AreTables set t s → IsLegalState set s → IsPlanned t.calendar calendar tx tick
    → tick ≡ t.clock → serial ≡ (plans_by t.calendar tx).number
    → ((planned : List Release) → Holds calendar planned → MatchOption o (NothingDue tick planned) (IsDue tick planned)) → ((planned : List Release) → Holds calendar planned → Holds rest (left tick o planned)) → SamePlans calendar rest
    → pending ≡ record t.pending { rows = with_row tick t.pending.rows (record { tx = record { 0 = tx }; serial = serial }) }
    → AreTables set (record { clock = t.clock; items = t.items; calendar = rest; pending = pending; tallies = t.tallies }) (with_plan s tx tick)
planned_now set t s calendar rest pending o tx tick serial a legal is at named due taken same en =
    let k = known set s legal in
    let now : tick ≡ s.now = at ∙ a.now in
    let holds : Holds calendar (s.planned ++ one (next_job s tx) tick ∷ []) = held set t s calendar tx tick a is in
    let job : record { tx = record { 0 = tx }; serial = serial } ≡ next_job s tx = ap (λ (n : ℕ). record { tx = record { 0 = tx }; serial = n }) named ∙ jobs_at set t s tx a in
    let rows : with_row tick t.pending.rows (record { tx = record { 0 = tx }; serial = serial }) ≡ with_row tick s.rows (next_job s tx) =
    ap (with_row tick t.pending.rows) job ∙ ap (λ (l : List (Option Row)). with_row tick l (next_job s tx)) a.rows.rows in
    let after : AreTables set (record { clock = t.clock; items = t.items; calendar = rest; pending = record t.pending { rows = with_row tick t.pending.rows (record { tx = record { 0 = tx }; serial = serial }) }; tallies = t.tallies }) (with_at s tx tick true) = record {
      now = a.now;
      items = a.items;
      periods = same.periods ∙ (is.periods ∙ a.periods);
      room = same.room ∙ (is.room ∙ a.room);
      plans = same.plans ∙ (is.plans ∙ plans_after set t s tx tick a);
      planned = taken_at calendar rest s.planned (next_job s tx) tick o (λ q i e. omega (arith, k.sound.calendar.future q i, e, now))
          (due (s.planned ++ one (next_job s tx) tick ∷ []) holds) (taken (s.planned ++ one (next_job s tx) tick ∷ []) holds);
      rows = record { facts = a.rows.facts; rows = rows };
      tallies = a.tallies;
    } in
    subst (λ (p : PendingSeen). AreTables set (record { clock = t.clock; items = t.items; calendar = rest; pending = p; tallies = t.tallies }) (with_plan s tx tick)) (sym en)
    (subst (AreTables set _) (with_plan_is s tx tick true (eq-eqb tick s.now now)) after)

-- nobody is there

gap_at : (n last period tick : ℕ) (b : Bool) → (n == 0) ≡ b → cond b 0 (last + period) ≤ tick → 0 < n → last + period ≤ tick
gap_at n last period tick true e h pos = absurd (omega (arith, eqb-true _ _ e))
gap_at n last period tick false e h pos = h

pub plan_row_free : (set : Set) (t : TablesSeen) (s : State) (tx tick : ℕ) → AreTables set t s → IsLegalState set s → refusal t.calendar tx tick t.clock ≡ None → tick ≡ t.clock → tx < length set.txns → row_of t.pending.rows tx ≡ None
plan_row_free set t s tx tick a legal h at lt =
    let k = known set s legal in
    let pass = bounds set t s tx tick a h in
    ap (λ (l : List (Option Row)). row_of l tx) a.rows.rows
    ∙ row_none s.rows tx (row_of s.rows tx) refl (λ y here.
    let own : y.job.tx.0 ≡ tx = k.sound.frame.named tx y here in
    let there : IsPending s.rows y = subst (λ (n : ℕ). get_or s.rows n None ≡ Some y) (sym own) here in
    let o = k.sound.calendar.released y there in
    let same : plans_of s y.job.tx.0 ≡ plans_of s tx = ap (plans_of s) own in
    let gap : (plans_of s tx).last + (txn_of set tx).period ≤ tick =
    gap_at (plans_of s tx).number (plans_of s tx).last (txn_of set tx).period tick ((plans_of s tx).number == 0) refl pass.apart (omega (arith, o.1, ap (λ (p : Plans). p.number) same)) in
    let d : (txn_of set y.job.tx.0).deadline ≡ (txn_of set tx).deadline = ap (λ (n : ℕ). (txn_of set n).deadline) own in
    let good = times_at set tx k.compiled lt in
    absurd (omega (arith, o.0, ap (λ (p : Plans). p.last) same, gap, k.sound.calendar.alive y there, d, good.deadline.1, at, a.now)))

-- lengths

pub periods_many : (set : Set) (t : TablesSeen) (s : State) → AreTables set t s → length t.calendar.periods ≡ length set.txns
periods_many set t s a = ap (λ (l : List ℕ). length l) a.periods ∙ length-map set.txns (λ x. x.period)

pub at_view : (set : Set) (t now : TablesSeen) (s : State) → t ≡ now → AreTables set now s → AreTables set t s
at_view set t now s e a = subst (λ (v : TablesSeen). AreTables set v s) (sym e) a

pub rows_many : (set : Set) (t : TablesSeen) (s : State) → AreTables set t s → IsLegalState set s → length t.pending.rows ≡ length set.txns
rows_many set t s a legal = ap (λ (l : List (Option Row)). length l) a.rows.rows ∙ (known set s legal).sound.frame.count
