-- On a closed plant each seat has seen a run so far, and of its transaction its own plans alone after those of the releases.
use Rattle.std.proofs.Common.{◌≡◌, ℕ, ◌+◌, ◌-◌, ◌<◌, List, ◌∷◌, ◌++◌, length, Some, ap, sym, ◌∙◌, subst, arith, append_assoc}
use Rattle.std.proofs.lemmas.List.{append_cancel_left}
use mathlib.Core.Option.{some}
use lib.ListN.{get_elem?}
use Rattle.rt_base.specs.declared.ids.TxId.{TxId}
use Rattle.txn_set.specs.Set.{Set}
use Rattle.step_journal.specs.declared.entry.Entry.{Entry}
use Rattle.step_journal.specs.State.{opening}
use Rattle.step_journal.specs.History.{IsLegal}
use Rattle.board.specs.Histories.{plan_next_answer}
use Rattle.law_histories.specs.Counting.{plan_count}
use Rattle.shared_plant.specs.Seats.{SeatFacts}
use Rattle.txn_threads.specs.Plans.{plans_in}
use Rattle.law_histories.specs.Sim.{Workload, plans}
use Rattle.sim_run.specs.Workloads.{ticks_of}
use Rattle.sim_run.proofs.Histories.{legal_split}
use Rattle.law_runs.proofs.Counts.{count_plans}
use Rattle.law_runs.proofs.Owners.{Lies, lies}
use Rattle.law_runs.proofs.SoFar.{history_so_far, seat_reached}
use Rattle.law_runs.proofs.Refusals.{run_front}
use Rattle.law_runs.specs.EagerLaws.{HasJobsLeft, FrontSoFar, PlansAreOwn, SeatHasJobsLeft, ClosedNoPlan, NeverUnplanned}
use Rattle.law_runs.proofs.Open.{next_planned}

pub front_so_far : FrontSoFar
front_so_far = λ w eager_jobs history begun r front from.
    let more : List Entry = from.0 in
    let rest : r.rest ≡ more ++ front.0 = append_cancel_left (plans w) r.rest (more ++ front.0)
    (sym r.begins ∙ (front.1 ∙ (ap (λ (l : List Entry). l ++ front.0) from.1 ∙ append_assoc (plans w) more front.0))) in
    record {
      legal = (legal_split w.set (opening w.set) begun front.0 (subst (IsLegal w.set) front.1 r.legal)).0;
      script_run = run_front w begun front.0 history front.1 r.script_run;
      rest = more;
      begins = from.1;
      later = λ before after e is.
          r.later before (after ++ front.0) e (rest ∙ (ap (λ (l : List Entry). l ++ front.0) is ∙ append_assoc before (e ∷ after) front.0));
    }

module _ (w : Workload) (eager_jobs : ℕ → ℕ) (seats : List SeatFacts) (history : List Entry) (f : Lies w eager_jobs seats history) where
  seat_plans : (k : ℕ) (s : SeatFacts) (tx : TxId) → get_elem? seats k ≡ some s → s.tx ≡ Some tx
      → plan_count s.seen tx.0 ≡ length (ticks_of w.releases tx.0) + plans_in s.mine
  seat_plans k s tx at is =
      let r = seat_reached w eager_jobs seats history f k s tx at is in
      omega (arith, r.0.planned, count_plans w tx.0, ap plans_in r.1)

  seat_left : (k : ℕ) (s : SeatFacts) (tx : TxId) → get_elem? seats k ≡ some s → s.tx ≡ Some tx → tx.0 < length w.set.txns
      → plans_in s.mine < eager_jobs tx.0 → HasJobsLeft w eager_jobs s.seen tx.0
  seat_left k s tx at is lt few = record {
    run = front_so_far w eager_jobs history s.seen (history_so_far w eager_jobs seats history f) (f.each k s at).1 (f.each k s at).0.began;
    in_set = lt;
    left = omega (arith, seat_plans k s tx at is, few);
  }

module _ {B : Type 0} (stands : B → List Entry → Type 0) (set : B → Set) (room first : B → ℕ) (kept : B → List Entry) where
  pub plans_are_own : PlansAreOwn stands set room first kept
  plans_are_own = λ w eager_jobs p b seats c h. seat_plans w eager_jobs seats c.history (lies stands set room first kept w eager_jobs p b seats c h)

  pub jobs_left : SeatHasJobsLeft stands set room first kept
  jobs_left = λ w eager_jobs p b seats c h. seat_left w eager_jobs seats c.history (lies stands set room first kept w eager_jobs p b seats c h)

  pub closed_no_plan : ClosedNoPlan stands set room first kept
  closed_no_plan = λ w eager_jobs p b seats c h few k s tx held places e at is lt less answer cause.
      let f = lies stands set room first kept w eager_jobs p b seats c h in
      next_planned w eager_jobs s.seen tx.0 held places e f.compiled few (seat_left w eager_jobs seats c.history f k s tx at is lt less) answer cause

  pub never_unplanned : {Y : Type 0} → NeverUnplanned Y stands set room first kept
  never_unplanned = λ w eager_jobs p b seats c h few k m tx e at of planned jobs u.
      let s : SeatFacts = m.seat in
      let held : ℕ = length s.seen - s.base in
      let in_set : tx.0 < length w.set.txns = subst (λ (q : Set). tx.0 < length q.txns) h.set_is (of.1 tx u.own) in
      let less : plans_in s.mine < eager_jobs tx.0 = omega (arith, u.left, planned, jobs) in
      closed_no_plan w eager_jobs p b seats c h few k s tx held p.room e at u.own in_set less
      (u.answer ∙ ap (λ (q : Set). plan_next_answer q s.seen held p.room tx.0) h.set_is) u.cause_is
