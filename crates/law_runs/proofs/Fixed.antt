-- Where no transaction plans jobs itself, each entry after the plans is that of the event that the state fixes, and the other
-- way round: no state fixes a plan.
use Rattle.std.proofs.Common.{◌≡◌, ℕ, Bool, true, false, cond, List, [], ◌∷◌, ◌++◌, Option, None, Some, refl, ap, sym, ◌∙◌, subst, arith, append_assoc, append-nil}
use Rattle.std.specs.Option.{option_map, option_and_then}
use Rattle.rt_base.specs.declared.ids.JobId.{JobId}
use Rattle.rt_base.specs.declared.operation.Op.{Op}
use Rattle.rt_base.specs.declared.release.Release.{Release}
use Rattle.txn_set.specs.Set.{Set}
use Rattle.step_journal.specs.declared.entry.Entry.{Entry}
use Rattle.step_journal.specs.declared.entry.Entry.TheVariants.{Planned, Step, Blocked, Idle}
use Rattle.step_journal.specs.State.{State, Row, same_job, opening, pending}
use Rattle.step_journal.specs.Running.{running, of_job}
use Rattle.step_journal.specs.Instant.{arrived}
use Rattle.step_journal.specs.Step.{plan, ask, idle, asked, idled, next_tick, step}
use Rattle.step_journal.specs.History.{event_of, entry_given, IsLegalEntry, IsLegalFrom, IsLegal, state_of}
use Rattle.law_histories.proofs.Invariant.{same_job_is}
use Rattle.law_histories.specs.Counting.{plan_count}
use Rattle.law_histories.specs.Sim.{Workload, IsAsked, IsFixed, plans, next_event, event_for, event_in, op_asked}
use Rattle.sim_run.proofs.Histories.{legal_split, state_next}
use Rattle.law_histories.proofs.Once.{none_runs}
use Rattle.sim_run.proofs.Runs.{count_fixed}
use Rattle.law_runs.specs.Histories.{IsLater, IsRunSoFar}
use Rattle.law_runs.specs.Laws.{FixedIsSim, FixedIsUnderWay, SimIsRun}
use Rattle.law_runs.proofs.Counts.{count_append, count_plans}

-- an operation that is legal is asked for by the running job

record Runs (o : Option Row) (job : JobId) : Type 0 where
  row : Row
  is : o ≡ Some row
  job_is : row.job ≡ job

asked_own : (set : Set) (s : State) (op : Op) (job : JobId) (e : Entry) (row : Row) (b : Bool) → same_job row.job job ≡ b
    → entry_given (option_and_then (asked set s op) (cond b (Some row) None)) ≡ Some e → Runs (Some row) job
asked_own set s op job e row true t h = record { row = row; is = refl; job_is = same_job_is row.job job t }
asked_own set s op job e row false t h = absurd cc

asked_runs : (set : Set) (s : State) (op : Op) (job : JobId) (e : Entry) (o : Option Row)
    → entry_given (option_and_then (asked set s op) (option_and_then (of_job job) o)) ≡ Some e → Runs o job
asked_runs set s op job e None h = absurd cc
asked_runs set s op job e (Some row) h = asked_own set s op job e row (same_job row.job job) refl h

legal_runs : (set : Set) (s : State) (op : Op) (job : JobId) (e : Entry) → entry_given (step set s (ask job op)) ≡ Some e
    → Runs (running set s.rows) job
unfolding step
legal_runs set s op job e h = asked_runs set s op job e (running set s.rows) h

ask_fixed : (w : Workload) (before : List Entry) (job : JobId) (op : Op) → Runs (running w.set (state_of w.set before).rows) job
    → op ≡ op_asked w before job → next_event w before ≡ Some (ask job op)
ask_fixed w before job op r is =
    ap (event_for w before (state_of w.set before)) r.is
    ∙ (ap (λ (j : JobId). Some (ask j (op_asked w before j))) r.job_is ∙ ap (λ (o : Op). Some (ask job o)) (sym is))

-- idling is legal where nothing is pending and something is planned

record Idles (s : State) : Type 0 where
  none : pending s.rows ≡ []
  first : Release
  others : List Release
  some : s.planned ≡ first ∷ others

idled_at : (set : Set) (s : State) (e : Entry) (planned : List Release) → s.planned ≡ planned → pending s.rows ≡ []
    → entry_given (option_map (λ t. (Idle s.now t, arrived set t s)) (next_tick planned)) ≡ Some e → Idles s
idled_at set s e [] is none h = absurd cc
idled_at set s e (r ∷ rs) is none h = record { none = none; first = r; others = rs; some = is }

idled_rows : (set : Set) (s : State) (e : Entry) (rows : List Row) → pending s.rows ≡ rows → entry_given (idled set s rows) ≡ Some e
    → Idles s
idled_rows set s e [] is h = idled_at set s e s.planned refl is h
idled_rows set s e (row ∷ rows) is h = absurd cc

legal_idles : (set : Set) (s : State) (e : Entry) → entry_given (step set s idle) ≡ Some e → Idles s
unfolding step
legal_idles set s e h = idled_rows set s e (pending s.rows) refl h

idle_fixed : (w : Workload) (before : List Entry) → Idles (state_of w.set before) → next_event w before ≡ Some idle
idle_fixed w before i =
    ap (event_for w before (state_of w.set before)) (none_runs w.set (state_of w.set before).rows i.none) ∙ ap event_in i.some

-- one entry, and all

abbrev IsNoPlan : Entry → Type 0
IsNoPlan (Planned tx tick) = ⊥
IsNoPlan (Step job op outcome over tick) = Unit {0}
IsNoPlan (Blocked job op by ceiling tick) = Unit {0}
IsNoPlan (Idle from to) = Unit {0}

entry_fixed : (w : Workload) (before : List Entry) (e : Entry) → IsLegalEntry w.set (state_of w.set before) e → IsAsked w before e
    → IsNoPlan e → next_event w before ≡ Some (event_of e)
entry_fixed w before (Planned tx tick) legal is no_plan = absurd no_plan
entry_fixed w before (Step job op outcome over tick) legal is no_plan = ask_fixed w before job op (legal_runs w.set (state_of w.set before) op job (Step job op outcome over tick) legal) is
entry_fixed w before (Blocked job op by ceiling tick) legal is no_plan = ask_fixed w before job op (legal_runs w.set (state_of w.set before) op job (Blocked job op by ceiling tick) legal) is
entry_fixed w before (Idle from to) legal is no_plan = idle_fixed w before (legal_idles w.set (state_of w.set before) (Idle from to) legal)

all_fixed : (w : Workload) (before rest : List Entry) → IsLegalFrom w.set (state_of w.set before) rest
    → ((more after : List Entry) (e : Entry) → rest ≡ more ++ e ∷ after → IsAsked w (before ++ more) e × IsNoPlan e)
    → IsFixed w before rest
all_fixed w before [] legal each = tt
all_fixed w before (e ∷ rest) legal each =
    let first = each [] rest e refl in (
      entry_fixed w before e legal.0 (subst (λ (l : List Entry). IsAsked w l e) (append-nil before) first.0) first.1,
      all_fixed w (before ++ e ∷ []) rest (subst (λ (s : State). IsLegalFrom w.set s rest) (sym (state_next w.set before e)) legal.1)
          (λ more after x is.
          let next = each (e ∷ more) after x (ap (λ (l : List Entry). e ∷ l) is) in
          (subst (λ (l : List Entry). IsAsked w l x) (sym (append_assoc before (e ∷ []) more)) next.0, next.1)),
    )

-- with no jobs of its own no transaction has a later plan
no_later : (w : Workload) (eager_jobs : ℕ → ℕ) (more : List Entry) (e : Entry) → ((tx : ℕ) → eager_jobs tx ≡ 0) → IsLater w eager_jobs more e → IsNoPlan e
no_later w eager_jobs more (Planned tx tick) none h = absurd (let left = h.left in omega (arith, left, none tx.0))
no_later w eager_jobs more other none h = tt

rest_fixed : (w : Workload) (eager_jobs : ℕ → ℕ) (history : List Entry) → ((tx : ℕ) → eager_jobs tx ≡ 0) → (r : IsRunSoFar w eager_jobs history) → IsFixed w (plans w) r.rest
rest_fixed w eager_jobs history none r =
    let legal = legal_split w.set (opening w.set) (plans w) r.rest (subst (IsLegal w.set) r.begins r.legal) in
    all_fixed w (plans w) r.rest legal.1 (λ more after e is.
    let at : history ≡ (plans w ++ more) ++ e ∷ after = r.begins ∙ (ap (λ (l : List Entry). plans w ++ l) is ∙ sym (append_assoc (plans w) more (e ∷ after))) in
    (r.script_run (plans w ++ more) after e at, no_later w eager_jobs more e none (r.later more after e is)))

pub fixed_under_way : FixedIsUnderWay
fixed_under_way = λ w eager_jobs history none r.
    record { script_run = r.script_run; rest = r.rest; begins = r.begins; fixed = rest_fixed w eager_jobs history none r }

pub fixed_sim : FixedIsSim
fixed_sim = λ w eager_jobs history none r.
    record {
      legal = r.so_far.legal;
      script_run = r.so_far.script_run;
      rest = r.so_far.rest;
      begins = r.so_far.begins;
      fixed = rest_fixed w eager_jobs history none r.so_far;
      none_pending = r.none_pending;
      none_planned = r.none_planned;
    }

-- no state fixes a plan, and so the entries of fixed events have none

none_in : (tx tick : ℕ) (planned : List Release) → event_in planned ≡ Some (plan tx tick) → ⊥
none_in tx tick [] h = cc
none_in tx tick (r ∷ rs) h = cc

none_for : (w : Workload) (before : List Entry) (s : State) (o : Option Row) (tx tick : ℕ)
    → event_for w before s o ≡ Some (plan tx tick) → ⊥
none_for w before s (Some row) tx tick h = cc
none_for w before s None tx tick h = none_in tx tick s.planned h

fixed_no_plan : (w : Workload) (before : List Entry) (e : Entry) → next_event w before ≡ Some (event_of e) → IsNoPlan e
fixed_no_plan w before (Planned tx tick) h = none_for w before (state_of w.set before) (running w.set (state_of w.set before).rows) tx.0 tick h
fixed_no_plan w before other h = tt

no_plan_at : (w : Workload) (before more after : List Entry) (e : Entry) → IsFixed w before (more ++ e ∷ after) → IsNoPlan e
no_plan_at w before [] after e f = fixed_no_plan w before e f.0
no_plan_at w before (x ∷ more) after e f = no_plan_at w (before ++ x ∷ []) more after e f.1

no_plan_later : (w : Workload) (eager_jobs : ℕ → ℕ) (more : List Entry) (e : Entry) → IsNoPlan e → IsLater w eager_jobs more e
no_plan_later w eager_jobs more (Planned tx tick) no_plan = absurd no_plan
no_plan_later w eager_jobs more other no_plan = tt

pub sim_is_run : SimIsRun
sim_is_run = λ w eager_jobs history none s.
    record {
      so_far =
          record {
            legal = s.legal;
            script_run = s.script_run;
            rest = s.rest;
            begins = s.begins;
            later = λ more after e is. no_plan_later w eager_jobs more e (no_plan_at w (plans w) more after e (subst (IsFixed w (plans w)) is s.fixed));
          };
      jobs = λ tx lt. omega (arith, ap (λ (l : List Entry). plan_count l tx) s.begins, count_append (plans w) s.rest tx, count_plans w tx, count_fixed w (plans w) s.rest tx s.fixed, none tx);
      none_pending = s.none_pending;
      none_planned = s.none_planned;
    }
