-- Whose each entry of a closed plant's history is.
use Rattle.std.proofs.Common.{length-append, ◌≡◌, ℕ, suc, ◌+◌, ◌<◌, ◌≤◌, Bool, false, cond, List, [], ◌∷◌, ◌++◌, length, Option, None, Some, refl, ap, sym, ◌∙◌, subst, inl, inr, arith}
use mathlib.Core.Option.{some, some-injective}
use lib.ListN.{get_elem?}
use Rattle.std.proofs.lemmas.Bool.{cases_eq, ne_eqb, false_from_ne_true}
use Rattle.rt_base.specs.declared.ids.TxId.{TxId}
use Rattle.rt_base.specs.declared.ids.JobId.{JobId}
use Rattle.rt_base.specs.declared.operation.Op.{Op}
use Rattle.rt_base.specs.declared.operation.Outcome.{Outcome}
use Rattle.txn_set.specs.Set.{Set, IsCompiled}
use Rattle.step_journal.specs.declared.entry.Entry.{Entry}
use Rattle.step_journal.specs.declared.entry.Entry.TheVariants.{Planned, Step, Blocked, Idle}
use Rattle.step_journal.specs.State.{same_job}
use Rattle.step_journal.specs.History.{IsLegal}
use Rattle.step_journal.specs.Serial.{outcome_in}
use Rattle.law_histories.specs.Counting.{plans_in}
use Rattle.law_histories.proofs.Invariant.{same_job_is}
use Rattle.turn_cell.specs.Turn.{Begins, Stand, times, total, below}
use Rattle.turn_cell.proofs.Lists.{chained}
use Rattle.shared_plant.specs.Seats.{PlantFacts, SeatFacts, Closed, times_of, operators_in}
use Rattle.txn_threads.specs.Scripts.{IsAsked, AreAsked}
use Rattle.txn_threads.specs.Plans.{plan_number, IsPlanned, ArePlanned}
use Rattle.law_histories.specs.Sim.{Workload, plans}
use Rattle.sim_run.specs.Workloads.{ticks_of}
use Rattle.law_runs.specs.Seats.{IsSeatRun, AreSeats, HaveRun}
use Rattle.law_runs.proofs.Places.{at_middle, bit_other, below_in, below_out, total_some}

-- one of the entries of a seat, with what is known of it

pub record Made (gives : ℕ → List Outcome → Op) (set : Set) (seen : List Entry) (tx : TxId) (eager : Bool) (jobs n : ℕ) (e : Entry) : Type 0 where
  pub before : List (ℕ × Entry)
  pub asked : IsAsked gives tx before e
  pub planned : ℕ
  pub plan : IsPlanned set seen tx eager jobs planned n e

pub record MadeIn (gives : ℕ → List Outcome → Op) (set : Set) (seen : List Entry) (tx : TxId) (eager : Bool) (jobs n : ℕ) (mine : List (ℕ × Entry)) : Type 0 where
  pub entry : Entry
  pub place : ℕ
  pub at : get_elem? mine place ≡ some (n, entry)
  pub made : Made gives set seen tx eager jobs n entry

made_in : (gives : ℕ → List Outcome → Op) (set : Set) (seen : List Entry) (tx : TxId) (eager : Bool) (jobs n : ℕ) (before : List (ℕ × Entry)) (planned : ℕ) (mine : List (ℕ × Entry))
    → AreAsked gives tx before mine → ArePlanned set seen tx eager jobs planned mine → 0 < times n mine
    → MadeIn gives set seen tx eager jobs n mine
made_in gives set seen tx eager jobs n before planned [] asked plans lt = absurd (omega arith)
made_in gives set seen tx eager jobs n before planned (p ∷ ps) asked plans lt = elim (cases_eq p.0 n) [
  | inl here ↦ record {
    entry = p.1;
    place = 0;
    at = ap (λ (k : ℕ). some (k, p.1)) here;
    made = record { before = before; asked = asked.0; planned = planned; plan = subst (λ (k : ℕ). IsPlanned set seen tx eager jobs planned k p.1) here plans.0 };
  }
  | inr ne ↦ (let r = made_in gives set seen tx eager jobs n (before ++ p ∷ []) (planned + plan_number p.1) ps asked.1 plans.1 (omega (arith, lt, bit_other n p.0 (λ e. ne (sym e)))) in
      record { entry = r.entry; place = suc r.place; at = r.at; made = r.made })
]

-- an entry that another transaction's seat made is no step and no plan of this one

pub record IsForeign (tx : TxId) (e : Entry) : Type 0 where
  pub outcome : (job : JobId) → job.tx ≡ tx → outcome_in job e ≡ None
  pub plan : plans_in tx.0 e ≡ 0

tx_apart : (a b : TxId) → a.0 ≡ b.0 → a ≡ b
tx_apart a b e = ap (λ (n : ℕ). record { 0 = n }) e

foreign : (gives : ℕ → List Outcome → Op) (set : Set) (seen : List Entry) (tx other : TxId) (eager : Bool) (jobs n : ℕ) (e : Entry) → (tx ≡ other → ⊥)
    → Made gives set seen other eager jobs n e → IsForeign tx e
foreign gives set seen tx other eager jobs n (Planned by tick) ne m = record {
  outcome = λ job is. refl;
  plan = let mine : by ≡ other = m.plan.own in ap {B = ℕ} (λ (b : Bool). cond b 1 0) (ne_eqb tx.0 by.0 (λ same. ne (tx_apart tx by same ∙ mine)));
}
foreign gives set seen tx other eager jobs n (Step by op outcome over tick) ne m = record {
  outcome = λ job is.
      let theirs : by.tx ≡ other = m.asked.0 in
      let apart : same_job by job ≡ false = false_from_ne_true _ (λ t. ne (sym is ∙ (sym (ap (λ (j : JobId). j.tx) (same_job_is by job t)) ∙ theirs))) in
      ap (λ (b : Bool). cond {A = Option Outcome} b (Some outcome) None) apart;
  plan = refl;
}
foreign gives set seen tx other eager jobs n (Blocked by op on ceiling tick) ne m = record { outcome = λ job is. refl; plan = refl }
foreign gives set seen tx other eager jobs n (Idle from to) ne m = record { outcome = λ job is. refl; plan = refl }

-- what is known of the seats of a closed plant that ran a workload

pub record Lies (w : Workload) (eager_jobs : ℕ → ℕ) (seats : List SeatFacts) (history : List Entry) : Type 0 where
  pub compiled : IsCompiled w.set
  pub legal : IsLegal w.set history
  pub each : (k : ℕ) (s : SeatFacts) → get_elem? seats k ≡ some s → IsSeatRun w eager_jobs s × Begins s.seen history × Stand s.mine history
  pub placed : (n : ℕ) → total (times_of n) seats + below n (length (plans w)) ≡ below n (length history)
  pub begins : Begins (plans w) history
  pub apart : AreSeats w.set seats
  pub eager : (tx : ℕ) → 0 < eager_jobs tx → ticks_of w.releases tx ≡ []

-- the seat that made the entry at a place
pub record Owner (seats : List SeatFacts) (n : ℕ) : Type 0 where
  pub place : ℕ
  pub seat : SeatFacts
  pub at : get_elem? seats place ≡ some seat
  pub tx : TxId
  pub is : seat.tx ≡ Some tx
  pub has : 0 < times n seat.mine

module _ (w : Workload) (eager_jobs : ℕ → ℕ) (seats : List SeatFacts) (history : List Entry) (f : Lies w eager_jobs seats history) where
  owner_by : (n k : ℕ) (s : SeatFacts) (o : Option TxId) → s.tx ≡ o → get_elem? seats k ≡ some s → 0 < times n s.mine → Owner seats n
  owner_by n k s (Some tx) is at has = record { place = k; seat = s; at = at; tx = tx; is = is; has = has }
  owner_by n k s None is at has = absurd (let none = ap (times n) ((f.each k s at).0.operator is) in omega (arith, has, none))

  pub owner_of : (n : ℕ) → length (plans w) ≤ n → n < length history → Owner seats n
  owner_of n from to =
      let t = total_some (times_of n) seats (omega (arith, f.placed n, below_out n (length (plans w)) from, below_in n (length history) to)) in
      owner_by n t.0 t.1 t.1.tx refl t.2 t.3

  -- a seat without an entry at the place is another transaction's than the seat that has it
  owners_apart : (n k : ℕ) (s : SeatFacts) (tx : TxId) (o : Owner seats n) → get_elem? seats k ≡ some s → s.tx ≡ Some tx → times n s.mine ≡ 0 → tx ≡ o.tx → ⊥
  owners_apart n k s tx o at is none q =
      let one : k ≡ o.place = f.apart.one k o.place s o.seat tx at o.at is (o.is ∙ ap Some (sym q)) in
      let there : get_elem? seats o.place ≡ some s = subst (λ (m : ℕ). get_elem? seats m ≡ some s) one at in
      let seat : s ≡ o.seat = some-injective s o.seat (sym there ∙ o.at) in
      let zero_here : times n o.seat.mine ≡ 0 = subst (λ (t : SeatFacts). times n t.mine ≡ 0) seat none in
      omega (arith, o.has, zero_here)

  foreign_by : (n : ℕ) (e : Entry) (tx : TxId) (o : Owner seats n) → get_elem? history n ≡ some e → (tx ≡ o.tx → ⊥) → IsForeign tx e
  foreign_by n e tx o here apart =
      let run = (f.each o.place o.seat o.at).0 in
      let plan = run.planned o.tx o.is in
      let m : MadeIn (w.bodies o.tx.0) w.set o.seat.seen o.tx plan.eager plan.jobs n o.seat.mine =
      made_in (w.bodies o.tx.0) w.set o.seat.seen o.tx plan.eager plan.jobs n [] 0 o.seat.mine (run.asked o.tx o.is) plan.plans o.has in
      let stands : get_elem? history n ≡ some m.entry = (f.each o.place o.seat o.at).2 m.place (n, m.entry) m.at in
      let same : m.entry ≡ e = some-injective m.entry e (sym stands ∙ here) in
      subst (IsForeign tx) same (foreign (w.bodies o.tx.0) w.set o.seat.seen tx o.tx plan.eager plan.jobs n m.entry apart m.made)

  -- the entry at a place that no entry of this seat has is foreign to its transaction
  pub foreign_at : (k : ℕ) (s : SeatFacts) (tx : TxId) (before after : List Entry) (e : Entry) → get_elem? seats k ≡ some s → s.tx ≡ Some tx
      → history ≡ before ++ e ∷ after → length (plans w) ≤ length before → times (length before) s.mine ≡ 0 → IsForeign tx e
  foreign_at k s tx before after e at is parts from none =
      let here : get_elem? history (length before) ≡ some e = ap (λ (l : List Entry). get_elem? l (length before)) parts ∙ at_middle before e after in
      let o : Owner seats (length before) = owner_of (length before) from (omega (arith, ap (λ (l : List Entry). length l) parts, length-append before (e ∷ after))) in
      foreign_by (length before) e tx o here (owners_apart (length before) k s tx o at is none)

-- a closed plant whose seats ran a workload
pub lies : {B : Type 0} (stands : B → List Entry → Type 0) (set : B → Set) (room first : B → ℕ) (kept : B → List Entry) (w : Workload) (eager_jobs : ℕ → ℕ) (p : PlantFacts) (b : B) (seats : List SeatFacts)
    → (c : Closed stands set room first kept p b seats) → HaveRun w eager_jobs p seats → Lies w eager_jobs seats c.history
lies stands set room first kept w eager_jobs p b seats c h =
    let operator = total_some operators_in seats (omega (arith, c.operator)) in
    record {
      compiled = subst IsCompiled h.set_is c.legal.compiled;
      legal = subst (λ (q : Set). IsLegal q c.history) h.set_is c.legal.legal;
      each = λ k s at. let e = c.each k s at in (h.each k s at, e.0, e.1);
      placed = λ n. ap (λ (m : ℕ). total (times_of n) seats + below n m) (sym h.start_is) ∙ c.placed n;
      begins = chained (plans w) operator.1.seen c.history (h.each operator.0 operator.1 operator.2).began (c.each operator.0 operator.1 operator.2).0;
      apart = h.own_seats;
      eager = h.eager;
    }
