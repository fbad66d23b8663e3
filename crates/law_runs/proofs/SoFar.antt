-- A closed plant's history is a script run, and each plan in it after those of the releases is an eager transaction's own.
use Rattle.std.proofs.Common.{◌<◌, ◌≡◌, ℕ, ◌+◌, ◌≤◌, Bool, true, if◌then◌else◌, List, [], ◌∷◌, ◌++◌, length, Some, refl, ap, sym, ◌∙◌, subst, inl, inr, arith, append_assoc, append-nil, length-append}
use mathlib.Core.Option.{some}
use lib.ListN.{get_elem?}
use Rattle.std.proofs.lemmas.Bool.{cases_lt}
use Rattle.rt_base.specs.declared.ids.TxId.{TxId}
use Rattle.rt_base.specs.declared.ids.JobId.{JobId}
use Rattle.rt_base.specs.declared.operation.Op.{Op}
use Rattle.txn_set.specs.Set.{Set}
use Rattle.step_journal.specs.declared.entry.Entry.{Entry}
use Rattle.step_journal.specs.declared.entry.Entry.TheVariants.{Planned, Step, Blocked}
use Rattle.step_journal.specs.History.{IsLegal, state_of}
use Rattle.step_journal.specs.Serial.{outcomes_of}
use Rattle.board.specs.Answers.{next_tick_for}
use Rattle.board.specs.Histories.{ended_of}
use Rattle.law_histories.specs.Counting.{plan_count}
use Rattle.law_histories.proofs.CountingAll.{entries_few}
use Rattle.turn_cell.specs.Turn.{Begins, times}
use Rattle.turn_cell.proofs.Sums.{times-append}
use Rattle.turn_cell.proofs.Lists.{chained}
use Rattle.shared_plant.specs.Seats.{SeatFacts}
use Rattle.txn_threads.specs.Scripts.{own_outcomes, IsOwnOp, IsAsked, AreAsked}
use Rattle.txn_threads.specs.Plans.{IsPlanned, ArePlanned, IsNextPlan}
use Rattle.txn_threads.specs.Plans.{plans_in as own_plans}
use Rattle.txn_threads.specs.Rising.{AreRising}
use Rattle.law_histories.specs.Sim.{Workload, IsScriptRun, plans, op_asked}
use Rattle.law_histories.specs.Sim.{IsAsked as IsAskedIn}
use Rattle.sim_run.specs.Workloads.{ticks_of}
use Rattle.sim_run.proofs.Histories.{legal_parts}
use Rattle.sim_run.proofs.Runs.{begins}
use Rattle.law_runs.specs.Histories.{IsOwnPlan, IsLater, IsRunSoFar}
use Rattle.law_runs.specs.Seats.{IsTold}
use Rattle.law_runs.specs.Laws.{ClosedSoFar}
use Rattle.law_runs.proofs.Places.{part_after, part_before, bit_same, rise_high}
use Rattle.law_runs.proofs.Counts.{count_append, count_plans}
use Rattle.law_runs.proofs.Owners.{Lies, Owner, lies, owner_of}
use Rattle.law_runs.proofs.Walk.{asked_at, planned_at, Reached, own_first, walk}

-- what a seat asked by its own entries it asked by the history

own_op : (w : Workload) (before : List Entry) (tx : TxId) (past : List (ℕ × Entry)) (job : JobId) (op : Op) → ((j : JobId) → j.tx ≡ tx → outcomes_of before j ≡ own_outcomes past j)
    → IsOwnOp (w.bodies tx.0) tx past job op → op ≡ op_asked w before job
own_op w before tx past job op told h =
    h.1 ∙ (ap (w.bodies tx.0 job.serial) (sym (told job h.0)) ∙ ap (λ (t : TxId). w.bodies t.0 job.serial (outcomes_of before job)) (sym h.0))

asked_in : (w : Workload) (before : List Entry) (tx : TxId) (past : List (ℕ × Entry)) (e : Entry) → ((j : JobId) → j.tx ≡ tx → outcomes_of before j ≡ own_outcomes past j)
    → IsAsked (w.bodies tx.0) tx past e → IsAskedIn w before e
asked_in w before tx past (Step job op outcome over tick) told h = own_op w before tx past job op told h
asked_in w before tx past (Blocked job op by ceiling tick) told h = own_op w before tx past job op told h
asked_in w before tx past other told h = tt

-- the seat that made an entry, and its entries before it
record Made (w : Workload) (eager_jobs : ℕ → ℕ) (seats : List SeatFacts) (history before : List Entry) (e : Entry) : Type 0 where
  place : ℕ
  seat : SeatFacts
  at : get_elem? seats place ≡ some seat
  tx : TxId
  is : seat.tx ≡ Some tx
  reached : Reached w seat tx (length history) before
  others : List (ℕ × Entry)
  parts : seat.mine ≡ reached.past ++ (length before, e) ∷ others

module _ (w : Workload) (eager_jobs : ℕ → ℕ) (seats : List SeatFacts) (history : List Entry) (f : Lies w eager_jobs seats history) where
  made_by : (before after : List Entry) (e : Entry) (o : Owner seats (length before)) → history ≡ before ++ e ∷ after → Reached w o.seat o.tx (length history) before
      → Made w eager_jobs seats history before e
  made_by before after e o parts r =
      let here : 0 < times (length before) r.left = omega (arith, o.has, ap (times (length before)) r.parts, times-append (length before) r.past r.left, r.low (length before) (omega arith)) in
      let i = own_first w eager_jobs seats history f o.place o.seat o.tx o.at o.is before after e parts r here in
      record { place = o.place; seat = o.seat; at = o.at; tx = o.tx; is = o.is; reached = r; others = i.0; parts = r.parts ∙ ap (λ (l : List (ℕ × Entry)). r.past ++ l) i.1 }

  made : (more after : List Entry) (e : Entry) → history ≡ plans w ++ more ++ e ∷ after → Made w eager_jobs seats history (plans w ++ more) e
  made more after e parts =
      let before : List Entry = plans w ++ more in
      let o : Owner seats (length before) = owner_of w eager_jobs seats history f (length before) (omega (arith, length-append (plans w) more)) (omega (arith, ap (λ (l : List Entry). length l) parts, length-append before (e ∷ after))) in
      made_by before after e o parts (walk w eager_jobs seats history f o.place o.seat o.tx o.at o.is more (e ∷ after) parts)

  made_asked : (before : List Entry) (e : Entry) → Made w eager_jobs seats history before e → IsAskedIn w before e
  made_asked before e m =
      let asked : AreAsked (w.bodies m.tx.0) m.tx [] (m.reached.past ++ (length before, e) ∷ m.others) = subst (AreAsked (w.bodies m.tx.0) m.tx []) m.parts ((f.each m.place m.seat m.at).0.asked m.tx m.is) in
      asked_in w before m.tx m.reached.past e m.reached.told (asked_at (w.bodies m.tx.0) m.tx [] m.reached.past (length before, e) m.others asked)

  history_run : IsScriptRun w history
  history_run = λ before after e parts. elim (cases_lt (length before) (length (plans w))) [
    | inl lt ↦ (let p = part_before (plans w) f.begins.0 before e after (sym f.begins.1 ∙ parts) lt in (begins w).script_run before p.0 e p.1)
    | inr ge ↦ (let p = part_after (plans w) f.begins.0 before (e ∷ after) (sym f.begins.1 ∙ parts) ge in
        subst (λ (l : List Entry). IsAskedIn w l e) (sym p.1) (made_asked (plans w ++ p.0) e (made p.0 after e (parts ∙ ap (λ (l : List Entry). l ++ e ∷ after) p.1))))
  ]

  -- a later plan

  none_more : (more : List Entry) → length more ≡ 0 → more ≡ []
  none_more [] h = refl
  none_more (x ∷ xs) h = absurd (omega arith)

  same_front : (old seen before tail : List Entry) → Begins old seen → Begins seen history → history ≡ before ++ tail → length old ≡ length before → old ≡ before
  same_front old seen before tail a b parts same =
      let all = chained old seen history a b in
      let p = part_after old all.0 before tail (sym all.1 ∙ parts) (omega (arith, same)) in
      let none : p.0 ≡ [] = none_more p.0 (omega (arith, same, ap (λ (l : List Entry). length l) p.1, length-append old p.0)) in
      sym (p.1 ∙ (ap (λ (l : List Entry). old ++ l) none ∙ append-nil old))

  total_eager_jobs : (eager : Bool) (jobs n : ℕ) → n ≡ (if eager then jobs else 0) → eager ≡ true → n ≡ jobs
  total_eager_jobs eager jobs n is t = is ∙ ap (λ (b : Bool). if b then jobs else 0) t

  next_later : (more after : List Entry) (e : Entry) (tx : TxId) (tick : ℕ) (seen : List Entry) (eager : Bool) (jobs planned : ℕ) → history ≡ plans w ++ more ++ e ∷ after → Begins seen history
      → eager_jobs tx.0 ≡ (if eager then jobs else 0) → plan_count (plans w ++ more) tx.0 ≡ plan_count (plans w) tx.0 + planned
      → IsNextPlan w.set seen tx eager jobs planned (length (plans w ++ more)) tx tick → IsOwnPlan w eager_jobs more tx tick
  next_later more after e tx tick seen eager jobs planned parts seen_begins own_is count n =
      let before : List Entry = plans w ++ more in
      let same : n.history ≡ before = same_front n.history seen before (e ∷ after) n.begins seen_begins parts n.place_is in
      let jobs_are : eager_jobs tx.0 ≡ jobs = total_eager_jobs eager jobs (eager_jobs tx.0) own_is n.is_eager in
      let legal : IsLegal w.set before = (legal_parts w.set before e after (subst (IsLegal w.set) parts f.legal)).0 in
      let few : ended_of w.set before tx.0 ≤ plan_count before tx.0 = (entries_few w.set before f.compiled legal).ended tx.0 in
      let ended : planned ≤ ended_of w.set before tx.0 = subst (λ (l : List Entry). planned ≤ ended_of w.set l tx.0) same n.ended in
      let none : length (ticks_of w.releases tx.0) ≡ 0 = ap (λ (l : List ℕ). length l) (f.eager tx.0 (omega (arith, n.left, jobs_are))) in
      record {
        left = omega (arith, n.left, jobs_are, count, count_append (plans w) more tx.0);
        ended = omega (arith, few, ended, count, count_plans w tx.0, none);
        tick_is = n.tick_is ∙ ap (λ (l : List Entry). next_tick_for w.set (state_of w.set l) tx.0) same;
      }

  planned_later : (more after : List Entry) (e : Entry) (tx : TxId) (seen : List Entry) (eager : Bool) (jobs planned : ℕ) → history ≡ plans w ++ more ++ e ∷ after → Begins seen history
      → eager_jobs tx.0 ≡ (if eager then jobs else 0) → plan_count (plans w ++ more) tx.0 ≡ plan_count (plans w) tx.0 + planned
      → IsPlanned w.set seen tx eager jobs planned (length (plans w ++ more)) e → IsLater w eager_jobs more e
  planned_later more after (Planned by tick) tx seen eager jobs planned parts seen_begins own_is count n =
      subst (λ (t : TxId). IsOwnPlan w eager_jobs more t tick) (sym n.own)
      (next_later more after (Planned by tick) tx tick seen eager jobs planned parts seen_begins own_is count
      (subst (λ (t : TxId). IsNextPlan w.set seen tx eager jobs planned (length (plans w ++ more)) t tick) n.own n))
  planned_later more after other tx seen eager jobs planned parts seen_begins own_is count n = tt

  history_later : (more after : List Entry) (e : Entry) → f.begins.0 ≡ more ++ e ∷ after → IsLater w eager_jobs more e
  history_later more after e is =
      let parts : history ≡ plans w ++ more ++ e ∷ after = f.begins.1 ∙ (ap (λ (l : List Entry). plans w ++ l) is ∙ sym (append_assoc (plans w) more (e ∷ after))) in
      let m = made more after e parts in
      let run = (f.each m.place m.seat m.at).0 in
      let plan = run.planned m.tx m.is in
      let plans_are : ArePlanned w.set m.seat.seen m.tx plan.eager plan.jobs 0 (m.reached.past ++ (length (plans w ++ more), e) ∷ m.others) = subst (ArePlanned w.set m.seat.seen m.tx plan.eager plan.jobs 0) m.parts plan.plans in
      planned_later more after e m.tx m.seat.seen plan.eager plan.jobs (0 + own_plans m.reached.past) parts (f.each m.place m.seat m.at).1 plan.own_is (omega (arith, m.reached.planned))
      (planned_at w.set m.seat.seen m.tx plan.eager plan.jobs 0 m.reached.past (length (plans w ++ more), e) m.others plans_are)

  pub history_so_far : IsRunSoFar w eager_jobs history
  history_so_far = record { legal = f.legal; script_run = history_run; rest = f.begins.0; begins = f.begins.1; later = history_later }

  -- what the seat's own entries told

  none_left : (tx : TxId) (s : SeatFacts) (before : List Entry) (r : Reached w s tx (length history) before) (left : List (ℕ × Entry)) → r.left ≡ left → AreRising (length (plans w)) (length before) s.mine → r.left ≡ []
  none_left tx s before r [] is rising = is
  none_left tx s before r (p ∷ ps) is rising =
      let rises : AreRising (length before) (length history) (p ∷ ps) = subst (λ (l : List (ℕ × Entry)). AreRising (length before) (length history) l) is r.rises in
      let parts : s.mine ≡ r.past ++ p ∷ ps = r.parts ∙ ap (λ (l : List (ℕ × Entry)). r.past ++ l) is in
      absurd (omega (arith, rise_high s.mine (length (plans w)) (length before) p.0 rising rises.0, ap (times p.0) parts, times-append p.0 r.past (p ∷ ps), bit_same p.0 p.0 refl))

  -- all that a seat has seen, with all of its own entries before its end
  pub seat_reached : (k : ℕ) (s : SeatFacts) (tx : TxId) → get_elem? seats k ≡ some s → s.tx ≡ Some tx → (r : Reached w s tx (length history) s.seen) × (s.mine ≡ r.past)
  seat_reached k s tx at is =
      let e = f.each k s at in
      let more : List Entry = e.0.began.0 in
      let seen : s.seen ≡ plans w ++ more = e.0.began.1 in
      let r = walk w eager_jobs seats history f k s tx at is more e.1.0 (e.1.1 ∙ ap (λ (l : List Entry). l ++ e.1.0) seen) in
      let none = none_left tx s (plans w ++ more) r r.left refl (subst (λ (l : List Entry). AreRising (length (plans w)) (length l) s.mine) seen e.0.rising) in
      let mine : s.mine ≡ r.past = r.parts ∙ (ap (λ (l : List (ℕ × Entry)). r.past ++ l) none ∙ append-nil r.past) in
      subst (λ (l : List Entry). (q : Reached w s tx (length history) l) × (s.mine ≡ q.past)) (sym seen) (r, mine)

  pub seat_told : (k : ℕ) (s : SeatFacts) → get_elem? seats k ≡ some s → IsTold s
  seat_told k s at = λ job is.
      let r = seat_reached k s job.tx at is in
      r.0.told job refl ∙ ap (λ (l : List (ℕ × Entry)). own_outcomes l job) (sym r.1)

pub closed_so_far : {B : Type 0} (stands : B → List Entry → Type 0) (set : B → Set) (room first : B → ℕ) (kept : B → List Entry) → ClosedSoFar stands set room first kept
closed_so_far stands set room first kept = λ w eager_jobs p b seats c h.
    let f = lies stands set room first kept w eager_jobs p b seats c h in (history_so_far w eager_jobs seats c.history f, seat_told w eager_jobs seats c.history f)
