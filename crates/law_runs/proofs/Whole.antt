-- Where of each transaction all jobs have ended, nothing is pending and nothing planned.
use Rattle.std.proofs.Common.{◌≡◌, ℕ, ◌+◌, ◌-◌, ◌<◌, ◌≤◌, Bool, cond, List, [], ◌∷◌, ◌++◌, length, Some, refl, ap, sym, ◌∙◌, subst, inl, inr, arith, append_assoc, append-nil}
use mathlib.Core.Option.{some}
use lib.ListN.{get_elem?}
use Rattle.std.proofs.lemmas.Bool.{cases_eq, eq-eqb, ne_eqb}
use Rattle.rt_base.specs.declared.release.Release.{Release}
use Rattle.txn_set.specs.Set.{Set, IsCompiled}
use Rattle.step_journal.specs.declared.entry.Entry.{Entry}
use Rattle.step_journal.specs.declared.entry.Entry.TheVariants.{Planned, Step, Blocked, Idle}
use Rattle.step_journal.specs.State.{Row, row_of, pending}
use Rattle.step_journal.specs.History.{IsLegal, state_of}
use Rattle.board.specs.Histories.{ended_of}
use Rattle.law_histories.specs.Counting.{plans_in, plan_count}
use Rattle.law_histories.proofs.Rooms.{count_more}
use Rattle.law_histories.proofs.CountingAll.{entries_few, time_bounded, ended_few}
use Rattle.law_histories.proofs.Members.{In, pending_in}
use Rattle.law_histories.proofs.SerialAll.{legal_serial}
use Rattle.law_histories.proofs.Invariant.{IsPending, in_range}
use Rattle.law_histories.proofs.Never.{legal_sound}
use Rattle.txn_threads.proofs.Counting.{ended_grow}
use Rattle.shared_plant.specs.Seats.{SeatFacts, tx_of}
use Rattle.law_histories.specs.Sim.{Workload, plans}
use Rattle.sim_run.specs.Workloads.{ticks_of}
use Rattle.law_runs.specs.Histories.{IsLater, IsRunSoFar, IsRunOf}
use Rattle.law_runs.specs.Seats.{IsDoneSeat}
use Rattle.law_runs.specs.Laws.{ClosedWhole}
use Rattle.law_runs.proofs.Counts.{count_append, count_plans}
use Rattle.law_runs.proofs.Owners.{Lies, lies}
use Rattle.law_runs.proofs.SoFar.{history_so_far}

-- of some jobs whose serials rise and lie from b below k there are at most k - b

-- a job that is pending or planned is one more than those that have ended

module _ (set : Set) (history : List Entry) (ok : IsCompiled set) (legal : IsLegal set history) where
  not_pending : (x : Row) → IsPending (state_of set history).rows x → plan_count history x.job.tx.0 ≤ ended_of set history x.job.tx.0 → ⊥
  not_pending x here all =
      let serial = legal_serial set history ok legal in
      let few = ended_few x.job.tx.0 0 x.job.serial (state_of set history).ended serial.rising (λ d i same. (omega arith, serial.done_row d x i here same)) in
      let below = ((legal_sound set history ok legal).calendar.released x here).1 in
      omega (arith, few, below, all, (time_bounded set history ok legal).plans x.job.tx.0)

  not_planned : (r : Release) → In r (state_of set history).planned → plan_count history r.job.tx.0 ≤ ended_of set history r.job.tx.0 → ⊥
  not_planned r here all =
      let serial = legal_serial set history ok legal in
      let few = ended_few r.job.tx.0 0 r.job.serial (state_of set history).ended serial.rising (λ d i same. (omega arith, serial.done_plan d r i here same)) in
      let below = ((legal_sound set history ok legal).calendar.planned r here).1 in
      omega (arith, few, below, all, (time_bounded set history ok legal).plans r.job.tx.0)

  pending_none : (rows : List Row) → pending (state_of set history).rows ≡ rows → ((n : ℕ) → n < length set.txns → plan_count history n ≤ ended_of set history n) → rows ≡ []
  pending_none [] is all = refl
  pending_none (x ∷ xs) is all =
      let frame = (legal_sound set history ok legal).frame in
      let i : In x (pending (state_of set history).rows) = subst (In x) (sym is) (inl refl) in
      let at = pending_in (state_of set history).rows x i in
      let here : IsPending (state_of set history).rows x = subst (λ (n : ℕ). row_of (state_of set history).rows n ≡ Some x) (sym (frame.named at.0 x at.1)) at.1 in
      absurd (not_pending x here (all x.job.tx.0 (omega (arith, in_range (state_of set history).rows x.job.tx.0 x here, frame.count))))

  planned_none : (planned : List Release) → (state_of set history).planned ≡ planned → ((n : ℕ) → n < length set.txns → plan_count history n ≤ ended_of set history n) → planned ≡ []
  planned_none [] is all = refl
  planned_none (r ∷ rs) is all =
      let i : In r (state_of set history).planned = subst (In r) (sym is) (inl refl) in
      absurd (not_planned r i (all r.job.tx.0 ((legal_sound set history ok legal).calendar.in_set r i)))

-- a transaction has at most its own later plans

module _ (w : Workload) (eager_jobs : ℕ → ℕ) (history : List Entry) (r : IsRunSoFar w eager_jobs history) where
  one_more : (more : List Entry) (e : Entry) (n : ℕ) → plan_count more n ≤ eager_jobs n → IsLater w eager_jobs more e → plan_count more n + plans_in n e ≤ eager_jobs n
  one_more more (Planned tx tick) n le h = elim (cases_eq n tx.0) [
    | inl here ↦ (let bit = ap {B = ℕ} (λ (b : Bool). cond b 1 0) (eq-eqb n tx.0 here) in
        omega (arith, bit, h.left, ap (plan_count more) here, ap eager_jobs here))
    | inr ne ↦ omega (arith, ap {B = ℕ} (λ (b : Bool). cond b 1 0) (ne_eqb n tx.0 ne), le)
  ]
  one_more more (Step job op outcome over tick) n le h = omega (arith, le)
  one_more more (Blocked job op by ceiling tick) n le h = omega (arith, le)
  one_more more (Idle from to) n le h = omega (arith, le)

  few_later : (more rest : List Entry) (n : ℕ) → r.rest ≡ more ++ rest → plan_count more n ≤ eager_jobs n → plan_count r.rest n ≤ eager_jobs n
  few_later more [] n is le = omega (arith, ap (λ (l : List Entry). plan_count l n) (is ∙ append-nil more), le)
  few_later more (e ∷ rest) n is le =
      few_later (more ++ e ∷ []) rest n (is ∙ sym (append_assoc more (e ∷ []) rest)) (omega (arith, count_more more e n, one_more more e n le (r.later more rest e is)))

  pub few_jobs : (n : ℕ) → plan_count history n ≤ length (ticks_of w.releases n) + eager_jobs n
  few_jobs n =
      omega (arith, ap (λ (l : List Entry). plan_count l n) r.begins, count_append (plans w) r.rest n, count_plans w n, few_later [] r.rest n refl (omega arith))

module _ (w : Workload) (eager_jobs : ℕ → ℕ) (seats : List SeatFacts) (history : List Entry) (f : Lies w eager_jobs seats history) (done : (k : ℕ) (s : SeatFacts) → get_elem? seats k ≡ some s → IsDoneSeat w eager_jobs s) where
  all_ended : (n : ℕ) → n < length w.set.txns → length (ticks_of w.releases n) + eager_jobs n ≤ ended_of w.set history n
  all_ended n lt =
      let s = f.apart.each n lt in
      let grown : ended_of w.set s.1.seen n ≤ ended_of w.set history n = ended_grow w.set s.1.seen history n (f.each s.0 s.1 s.2).1 in
      let enough : length (ticks_of w.releases n) + eager_jobs n ≤ ended_of w.set s.1.seen n = done s.0 s.1 s.2 (tx_of n) s.3 in
      omega (arith, grown, enough)

  pub history_whole : IsRunOf w eager_jobs history
  history_whole =
      let r = history_so_far w eager_jobs seats history f in
      let few = few_jobs w eager_jobs history r in
      let all : (n : ℕ) → n < length w.set.txns → plan_count history n ≤ ended_of w.set history n = λ n lt. omega (arith, few n, all_ended n lt) in
      record {
        so_far = r;
        jobs = λ n lt. (let ended : ended_of w.set history n ≤ plan_count history n = (entries_few w.set history f.compiled f.legal).ended n in omega (arith, few n, all_ended n lt, ended));
        none_pending = pending_none w.set history f.compiled f.legal (pending (state_of w.set history).rows) refl all;
        none_planned = planned_none w.set history f.compiled f.legal (state_of w.set history).planned refl all;
      }

pub closed_whole : {B : Type 0} (stands : B → List Entry → Type 0) (set : B → Set) (room first : B → ℕ) (kept : B → List Entry) → ClosedWhole stands set room first kept
closed_whole stands set room first kept = λ w eager_jobs p b seats c h done.
    history_whole w eager_jobs seats c.history (lies stands set room first kept w eager_jobs p b seats c h) done
