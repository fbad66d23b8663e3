-- What a try of each kind does to a member.
use Rattle.std.proofs.Common.{◌≡◌, ℕ, ◌+◌, ◌-◌, ◌<◌, ◌≤◌, List, Option, Some, None, Result, Ok, Err, IfErr, length, Bool, true, refl, sym, ap, subst, ◌∙◌, arith}
use Rattle.std.proofs.lemmas.Result.{IfErr-weaker}
use Rattle.rt_base.specs.declared.ids.TxId.{TxId}
use Rattle.rt_base.specs.declared.ids.JobId.{JobId}
use Rattle.rt_base.specs.declared.operation.Op.{Op}
use Rattle.rt_base.specs.declared.operation.Outcome.{Outcome}
use Rattle.rt_base.specs.declared.release.PlanRefused.{PlanRefused}
use Rattle.step_journal.specs.declared.entry.Entry.{Entry}
use Rattle.step_journal.specs.History.{state_of}
use Rattle.txn_set.specs.Set.{Set}
use Rattle.board.specs.declared.replies.StepReply.{StepReply}
use Rattle.board.specs.declared.replies.StepReply.TheVariants as reply
use Rattle.board.specs.declared.replies.IdleReply.{IdleReply}
use Rattle.board.specs.declared.replies.IdleReply.TheVariants as idle
use Rattle.board.specs.Answers.{next_tick_for, plan_reply}
use Rattle.board.specs.Histories.{noted, step_entry, step_answer, plan_next_entry, plan_next_answer, idle_entry, now_of, ended_of}
use Rattle.turn_cell.proofs.Lists.{whole, longer}
use Rattle.shared_plant.specs.Seats.{PlantFacts, SeatFacts}
use Rattle.shared_plant.specs.Answers.{with_own, turned, Answered}
use Rattle.shared_plant.proofs.Answering.{the_tx}
use Rattle.txn_threads.specs.declared.member.Halt.{Halt}
use Rattle.txn_threads.specs.declared.member.Member.{Member}
use Rattle.txn_threads.specs.declared.tries.TryOutcome.{TryOutcome}
use Rattle.txn_threads.specs.declared.task.Task.{Task}
use Rattle.txn_threads.specs.Scripts.{job_of, own_outcomes, AreAsked}
use Rattle.txn_threads.specs.Plans.{plans_in, ArePlanned}
use Rattle.txn_threads.specs.Tasks.{Tied}
use Rattle.txn_threads.specs.Rounds.{Sits, Ran, HasTried, known_after, planned_after, IsCause, IsUnplanned, IsHaltOf, IsPlanHalt, Met}
use Rattle.txn_threads.proofs.Counting.{ended_grow, known_bound, tick_of}
use Rattle.txn_threads.proofs.Scripting.{tied_other}
use Rattle.txn_threads.proofs.Rounding.{own_pairs, noted_begins, ran_one, knew, refused_at}

pub same_tx : (s : Option TxId) (t tx : TxId) → s ≡ Some t → s ≡ Some tx → t ≡ tx
same_tx s t tx p q = ap (the_tx tx) (sym p ∙ q)

-- the entry of a step, and that of idling

pub step_asked : (gives : ℕ → List Outcome → Op) (tx : TxId) (mine : List (ℕ × Entry)) (history : List Entry) (now serial : ℕ) (op : Op) (r : StepReply) → op ≡ gives serial (own_outcomes mine (job_of tx serial)) → AreAsked gives tx mine (own_pairs history (step_entry now (job_of tx serial) op r))
step_asked gives tx mine history now serial op (reply.Blocked by ceiling) own = ((refl, own), tt)
step_asked gives tx mine history now serial op (reply.Done outcome over) own = ((refl, own), tt)
step_asked gives tx mine history now serial op other own = tt

pub step_plans : (set : Set) (seen : List Entry) (tx : TxId) (eager : Bool) (jobs n : ℕ) (history : List Entry) (now : ℕ) (job : JobId) (op : Op) (r : StepReply) → ArePlanned set seen tx eager jobs n (own_pairs history (step_entry now job op r)) × (plans_in (own_pairs history (step_entry now job op r)) ≡ 0)
step_plans set seen tx eager jobs n history now job op (reply.Blocked by ceiling) = ((tt, tt), refl)
step_plans set seen tx eager jobs n history now job op (reply.Done outcome over) = ((tt, tt), refl)
step_plans set seen tx eager jobs n history now job op other = (tt, refl)

idle_asked : (gives : ℕ → List Outcome → Op) (tx : TxId) (mine : List (ℕ × Entry)) (history : List Entry) (now : ℕ) (r : IdleReply) → AreAsked gives tx mine (own_pairs history (idle_entry now r))
idle_asked gives tx mine history now (idle.Advanced to) = (tt, tt)
idle_asked gives tx mine history now other = tt

idle_plans : (set : Set) (seen : List Entry) (tx : TxId) (eager : Bool) (jobs n : ℕ) (history : List Entry) (now : ℕ) (r : IdleReply) → ArePlanned set seen tx eager jobs n (own_pairs history (idle_entry now r)) × (plans_in (own_pairs history (idle_entry now r)) ≡ 0)
idle_plans set seen tx eager jobs n history now (idle.Advanced to) = ((tt, tt), refl)
idle_plans set seen tx eager jobs n history now other = (tt, refl)

-- the entry of a plan

plan_asked : (gives : ℕ → List Outcome → Op) (tx by : TxId) (mine : List (ℕ × Entry)) (history : List Entry) (r : Result (JobId × ℕ) PlanRefused) → AreAsked gives tx mine (own_pairs history (plan_next_entry by r))
plan_asked gives tx by mine history (Ok p) = (tt, tt)
plan_asked gives tx by mine history (Err e) = tt

plan_number_is : (n : ℕ) (by : TxId) (history : List Entry) (r : Result (JobId × ℕ) PlanRefused) → planned_after n r ≡ n + plans_in (own_pairs history (plan_next_entry by r))
plan_number_is n by history (Ok p) = omega arith
plan_number_is n by history (Err e) = omega arith

plan_planned : (set : Set) (tx : TxId) (eager : Bool) (jobs n kept room : ℕ) (history : List Entry) (r : Result (JobId × ℕ) PlanRefused) → r ≡ plan_next_answer set history kept room tx.0 → eager ≡ true → n < jobs → n ≤ ended_of set history tx.0 → ArePlanned set (noted history (plan_next_entry tx r)) tx eager jobs n (own_pairs history (plan_next_entry tx r))
plan_planned set tx eager jobs n kept room history (Err e) is is_eager left ended = tt
plan_planned set tx eager jobs n kept room history (Ok p) is is_eager left ended = (
  record {
    is_eager = is_eager;
    own = refl;
    left = left;
    history = history;
    begins = longer history history _ (whole history);
    place_is = refl;
    tick_is = tick_of (next_tick_for set (state_of set history) tx.0) (plan_reply set (state_of set history) kept room tx.0 (next_tick_for set (state_of set history) tx.0)) p is;
    ended = ended;
  },
  tt,
)

module _ {Y : Type 0} (gives : Y → ℕ → List Outcome → Op) (stands : Y → ℕ → List Outcome → Type 0) where
  tied_idle : (tx : TxId) (mine : List (ℕ × Entry)) (history : List Entry) (now : ℕ) (r : IdleReply) (t : Task Y) → Tied gives stands tx mine t → Tied gives stands tx (with_own mine history (idle_entry now r)) t
  tied_idle tx mine history now (idle.Advanced to) t k = tied_other gives stands tx mine t _ k (λ s. refl)
  tied_idle tx mine history now other t k = k

  tied_plan : (tx by : TxId) (mine : List (ℕ × Entry)) (history : List Entry) (r : Result (JobId × ℕ) PlanRefused) (t : Task Y) → Tied gives stands tx mine t → Tied gives stands tx (with_own mine history (plan_next_entry by r)) t
  tied_plan tx by mine history (Ok p) t k = tied_other gives stands tx mine t _ k (λ s. refl)
  tied_plan tx by mine history (Err e) t k = k

module _ {B Y : Type 0} (gives : Y → ℕ → List Outcome → Op) (stands : Y → ℕ → List Outcome → Type 0) where
  -- a step try that was answered; the task is u once the operation is there
  pub stepped : (p : PlantFacts) (m n : Member B Y) (t : TxId) (u : Task Y) (op : Op) (r : StepReply) (o : Result TryOutcome Halt) → Sits gives stands p m → m.seat.tx ≡ Some t
      → Answered p.set (λ history base. r ≡ step_answer p.set history (length history - base) p.room (job_of t u.serial) op) (λ history. step_entry (now_of p.set history) (job_of t u.serial) op r) m.seat n.seat
      → n.jobs ≡ m.jobs → n.eager ≡ m.eager → gives n.task.body ≡ gives m.task.body → gives u.body ≡ gives m.task.body → u.op ≡ Some op
      → ((tx : TxId) (mine : List (ℕ × Entry)) → Tied gives stands tx mine m.task → Tied gives stands tx mine u)
      → ((tx : TxId) (mine : List (ℕ × Entry)) (o : Op) (now : ℕ) (history : List Entry) → Tied gives stands tx mine u → Tied gives stands tx (with_own mine history (step_entry now (job_of tx u.serial) o r)) n.task)
      → n.planned ≡ m.planned → n.ended ≡ known_after m.ended r → IfErr o (λ h. IsHaltOf h (job_of t u.serial) r)
      → HasTried gives stands p m o n
  stepped p m n t u op r o sits is a jobs eager same same_u kept asked_for heard planned ended stop =
      let history = a.history in
      let job : JobId = job_of t u.serial in
      let own : Option Entry = step_entry (now_of p.set history) job op r in
      let tied_u : Tied gives stands t m.seat.mine u = asked_for t m.seat.mine (sits.tied t is) in
      let own_op : op ≡ gives m.task.body u.serial (own_outcomes m.seat.mine job) = tied_u.op_is op kept ∙ (λ i. same_u i u.serial (own_outcomes m.seat.mine job)) in
      let top : ℕ = ended_of p.set (noted history own) t.0 in
      let up : ended_of p.set history t.0 ≤ top = ended_grow p.set history (noted history own) t.0 (noted_begins history history own (whole history)) in
      let bound : known_after m.ended r ≤ top = known_bound p.set (state_of p.set history) (length history - a.base) p.room job op r m.ended top a.says (knew gives stands p m t history own sits is a.begins) up in
      record {
        ran = ran_one gives stands p m n history a.base own sits a.after a.begins jobs eager same
            (λ tx e. subst (λ (x : TxId). AreAsked (gives m.task.body) x m.seat.mine (own_pairs history own)) (same_tx m.seat.tx t tx is e) (step_asked (gives m.task.body) t m.seat.mine history (now_of p.set history) u.serial op r own_op))
            (λ tx e. (step_plans p.set (noted history own) tx m.eager m.jobs m.planned history (now_of p.set history) job op r).0)
            (let none = (step_plans p.set (noted history own) t m.eager m.jobs m.planned history (now_of p.set history) job op r).1 in omega (arith, planned, none))
            (λ tx e. subst (λ (x : TxId). Tied gives stands x (with_own m.seat.mine history own) n.task) (same_tx m.seat.tx t tx is e) (heard t m.seat.mine op (now_of p.set history) history tied_u))
            (λ tx e. subst (λ (x : TxId). n.ended ≤ ended_of p.set (noted history own) x.0) (same_tx m.seat.tx t tx is e) (subst (λ (k : ℕ). k ≤ top) (sym ended) bound));
        met = IfErr-weaker o _ _ (λ h w. subst (λ (x : Halt). Met gives p x n) (sym w.0)
            (refused_at gives p m.seat n t u.serial op r a is w.1 (own_op ∙ (λ i. sym same i u.serial (own_outcomes m.seat.mine job))))) stop;
      }

  -- a try to idle that was answered
  pub ran_idled : (p : PlantFacts) (m n : Member B Y) (found : List Entry → ℕ → Type 0) (r : IdleReply) → Sits gives stands p m
      → Answered p.set found (λ history. idle_entry (now_of p.set history) r) m.seat n.seat
      → n.jobs ≡ m.jobs → n.eager ≡ m.eager → n.task ≡ m.task → n.planned ≡ m.planned → n.ended ≡ m.ended
      → Ran gives stands p m n
  ran_idled p m n found r sits a jobs eager task planned ended =
      let history = a.history in
      let own : Option Entry = idle_entry (now_of p.set history) r in
      ran_one gives stands p m n history a.base own sits a.after a.begins jobs eager (ap (λ (t : Task Y). gives t.body) task)
      (λ tx e. idle_asked (gives m.task.body) tx m.seat.mine history (now_of p.set history) r)
      (λ tx e. (idle_plans p.set (noted history own) tx m.eager m.jobs m.planned history (now_of p.set history) r).0)
      (let none = (idle_plans p.set (noted history own) sits.has.0 m.eager m.jobs m.planned history (now_of p.set history) r).1 in omega (arith, planned, none))
      (λ tx e. subst (λ (t : Task Y). Tied gives stands tx (with_own m.seat.mine history own) t) (sym task) (tied_idle gives stands tx m.seat.mine history (now_of p.set history) r m.task (sits.tied tx e)))
      (λ tx e. subst (λ (k : ℕ). k ≤ ended_of p.set (noted history own) tx.0) (sym ended) (knew gives stands p m tx history own sits e a.begins))

  -- the refusal of a plan is the board's answer at all that the seat has then seen
  unplanned_at : (p : PlantFacts) (m n : Member B Y) (t : TxId) (r : Result (JobId × ℕ) PlanRefused) (e : PlanRefused) → r ≡ Err e → Sits gives stands p m → m.seat.tx ≡ Some t
      → Answered p.set (λ history base. r ≡ plan_next_answer p.set history (length history - base) p.room t.0) (λ history. plan_next_entry t r) m.seat n.seat
      → n.jobs ≡ m.jobs → n.eager ≡ m.eager → n.planned ≡ planned_after m.planned r
      → m.eager ≡ true → m.planned < m.jobs → m.planned ≤ m.ended → IsCause e
      → IsUnplanned p n t e
  unplanned_at p m n t r e r_is sits is a jobs eager counted is_eager left behind cause =
      let after : n.seat ≡ turned m.seat a.history a.base None = a.after ∙ ap (λ (q : Result (JobId × ℕ) PlanRefused). turned m.seat a.history a.base (plan_next_entry t q)) r_is in
      let planned : n.planned ≡ m.planned = counted ∙ ap (planned_after m.planned) r_is in
      let seen : a.history ≡ n.seat.seen = sym (ap (λ (s : SeatFacts). s.seen) after) in
      let base : a.base ≡ n.seat.base = sym (ap (λ (s : SeatFacts). s.base) after) in
      let knows : m.ended ≤ ended_of p.set a.history t.0 = knew gives stands p m t a.history None sits is a.begins in
      let fine : m.planned ≤ ended_of p.set a.history t.0 = omega (arith, knows, behind) in record {
        own = ap (λ (s : SeatFacts). s.tx) after ∙ is;
        cause_is = cause;
        is_eager = eager ∙ is_eager;
        left = omega (arith, left, planned, jobs);
        ended = subst (λ (l : List Entry). n.planned ≤ ended_of p.set l t.0) seen (subst (λ (k : ℕ). k ≤ ended_of p.set a.history t.0) (sym planned) fine);
        answer = sym r_is ∙ (a.says ∙ (λ i. plan_next_answer p.set (seen i) (length (seen i) - base i) p.room t.0));
      }

  -- a plan try that was answered
  pub planned_one : (p : PlantFacts) (m n : Member B Y) (t : TxId) (r : Result (JobId × ℕ) PlanRefused) (o : Result TryOutcome Halt) → Sits gives stands p m → m.seat.tx ≡ Some t
      → Answered p.set (λ history base. r ≡ plan_next_answer p.set history (length history - base) p.room t.0) (λ history. plan_next_entry t r) m.seat n.seat
      → n.jobs ≡ m.jobs → n.eager ≡ m.eager → n.task ≡ m.task → n.ended ≡ m.ended
      → m.eager ≡ true → m.planned < m.jobs → m.planned ≤ m.ended → n.planned ≡ planned_after m.planned r → IfErr o (λ h. IsPlanHalt h t r)
      → HasTried gives stands p m o n
  planned_one p m n t r o sits is a jobs eager task ended is_eager left behind planned stop =
      let history = a.history in
      let own : Option Entry = plan_next_entry t r in
      let knows : m.ended ≤ ended_of p.set history t.0 = knew gives stands p m t history None sits is a.begins in
      let fine : m.planned ≤ ended_of p.set history t.0 = omega (arith, knows, behind) in
      record {
        ran = ran_one gives stands p m n history a.base own sits a.after a.begins jobs eager (ap (λ (k : Task Y). gives k.body) task)
            (λ tx e. plan_asked (gives m.task.body) tx t m.seat.mine history r)
            (λ tx e. subst (λ (x : TxId). ArePlanned p.set (noted history own) x m.eager m.jobs m.planned (own_pairs history own)) (same_tx m.seat.tx t tx is e) (plan_planned p.set t m.eager m.jobs m.planned (length history - a.base) p.room history r a.says is_eager left fine))
            (planned ∙ plan_number_is m.planned t history r)
            (λ tx e. subst (λ (k : Task Y). Tied gives stands tx (with_own m.seat.mine history own) k) (sym task) (tied_plan gives stands tx t m.seat.mine history r m.task (sits.tied tx e)))
            (λ tx e. subst (λ (k : ℕ). k ≤ ended_of p.set (noted history own) tx.0) (sym ended) (knew gives stands p m tx history own sits e a.begins));
        met = IfErr-weaker o _ _ (λ h k. subst (λ (x : Halt). Met gives p x n) (sym k.1) (unplanned_at p m n t r k.0 k.2 sits is a jobs eager planned is_eager left behind k.3)) stop;
      }
