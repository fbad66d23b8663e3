-- One more entry of a history, and what a plan that is not refused meets.
use Rattle.std.proofs.Common.{◌≡◌, ℕ, ◌<◌, ◌≤◌, Bool, true, false, cond, not, ◌&&◌, List, [], ◌∷◌, ◌++◌, length, Option, None, Some, refl, ap, sym, ◌∙◌, inl, inr, arith, length-append}
use Rattle.std.proofs.lemmas.Bool.{ltb-false}
use Rattle.std.proofs.lemmas.Bool.Decides.{leb_tells}
use Rattle.std.proofs.lemmas.List.{drop-append-le}
use Rattle.std.specs.Prelude.{nat_lt, nat_le, Result, Ok, Err}
use Rattle.rt_base.specs.declared.ids.TxId.{TxId}
use Rattle.rt_base.specs.declared.ids.JobId.{JobId}
use Rattle.step_journal.specs.declared.entry.Entry.{Entry}
use Rattle.step_journal.specs.declared.entry.Entry.TheVariants.{Planned}
use Rattle.txn_set.specs.Set.{Set}
use Rattle.step_journal.specs.State.{State}
use Rattle.step_journal.specs.Step.{plan, step, given, may_plan, with_plan, plans_of, earliest}
use Rattle.step_journal.specs.History.{state_of, event_of}
use Rattle.law_histories.proofs.Pushes.{pushed}
use Rattle.rt_base.specs.declared.release.PlanRefused.{PlanRefused}
use Rattle.rt_base.specs.Planning.{calendar_refusal, last_tick, most_serials}
use Rattle.board.specs.Answers.{plan_judged, plan_reply, unless_refused, most_planned}
use Rattle.board.specs.Histories.{IsHistory}
use Rattle.board.proofs.Plans.{may_plan_as}

-- the history with one more legal entry, and the state after it
pub record HistoryMore (set : Set) (room first : ℕ) (kept history : List Entry) (e : Entry) (next : State) : Type 0 where
  pub is_history : IsHistory set room first (kept ++ e ∷ []) (history ++ e ∷ [])
  pub state : next ≡ state_of set (history ++ e ∷ [])

pub history_more : (set : Set) (room first : ℕ) (kept history : List Entry) (e : Entry) (next : State) → IsHistory set room first kept history → step set (state_of set history) (event_of e) ≡ Some (e, next) → length kept < room
    → HistoryMore set room first kept history e next
history_more set room first kept history e next is steps lt =
    let p = pushed set history e next is.legal steps in
    let le : first ≤ length history = omega (arith, is.counted) in
    record {
      is_history = record {
        compiled = is.compiled;
        legal = p.legal;
        rest = ap (λ (l : List Entry). l ++ e ∷ []) is.rest ∙ sym (drop-append-le first history (e ∷ []) le);
        counted = omega (arith, is.counted, length-append kept (e ∷ []), length-append history (e ∷ []));
        fits = omega (arith, length-append kept (e ∷ []));
        small = is.small;
      };
      state = p.state;
    }

peel : (b : Bool) (e : PlanRefused) (o : Option PlanRefused) → cond b (Some e) o ≡ None → (b ≡ false) × (o ≡ None)
peel true e o h = absurd cc
peel false e o h = (refl, h)

peel_last : (b : Bool) (e : PlanRefused) (job is : JobId) → cond b (Err e) (Ok job) ≡ Ok is → (b ≡ false) × (job ≡ is)
peel_last true e job is h = absurd cc
peel_last false e job is h = (refl, cc)

peel_refused : (o : Option PlanRefused) (rest : Result JobId PlanRefused) (is : JobId) → unless_refused o rest ≡ Ok is → (o ≡ None) × (rest ≡ Ok is)
peel_refused None rest is h = (refl, h)
peel_refused (Some e) rest is h = absurd cc

-- a plan that is answered Ok meets none of the refusals
pub record Passes (tick now earliest planned kept room number : ℕ) : Type 0 where
  pub present : now ≤ tick
  pub apart : earliest ≤ tick
  pub near : tick ≤ last_tick
  pub calendar : planned < most_planned
  pub serials : number < most_serials
  pub roomy : kept < room

pub not_le : (a b : ℕ) → nat_le a b ≡ false → b < a
not_le a b h = elim (leb_tells a b) [ inl t ↦ absurd (two (nat_le a b) t.0 h) | inr f ↦ f.1 ] where
  two : (b : Bool) → b ≡ true → b ≡ false → ⊥
  two b x y = cc

pub passes : (tick now earliest planned kept room : ℕ) (job is : JobId) → plan_judged tick now earliest planned kept room job ≡ Ok is → Passes tick now earliest planned kept room job.serial × (job ≡ is)
passes tick now earliest planned kept room job is h =
    let o = peel_refused (calendar_refusal tick now earliest planned most_planned job.serial) _ is h in
    let a = peel (nat_lt tick now) _ _ o.0 in
    let b = peel (nat_lt tick earliest) _ _ a.1 in
    let c = peel (nat_lt last_tick tick) _ _ b.1 in
    let d = peel (nat_le most_planned planned) _ _ c.1 in
    let e = peel (nat_le most_serials job.serial) _ _ d.1 in
    let f = peel_last (nat_le room kept) _ job is o.1 in (
      record {
        present = ltb-false _ _ a.0;
        apart = ltb-false _ _ b.0;
        near = ltb-false _ _ c.0;
        calendar = not_le _ _ d.0;
        serials = not_le _ _ e.0;
        roomy = not_le _ _ f.0;
      },
      f.1,
    )

pub plan_steps : (set : Set) (s : State) (kept room : ℕ) (tx : TxId) (tick : ℕ) (job : JobId) → tx.0 < length set.txns → plan_reply set s kept room tx.0 tick ≡ Ok job
    → step set s (plan tx.0 tick) ≡ Some (Planned tx tick, with_plan s tx.0 tick)
unfolding step
plan_steps set s kept room tx tick job in_set h =
    let p : Entry × State = (Planned tx tick, with_plan s tx.0 tick) in
    let o = peel_refused (calendar_refusal tick s.now (earliest set tx.0 (plans_of s tx.0)) (length s.planned) most_planned (plans_of s tx.0).number) _ job h in
    let a = peel (nat_lt tick s.now) _ _ o.0 in
    let b = peel (nat_lt tick (earliest set tx.0 (plans_of s tx.0))) _ _ a.1 in
    let c = peel (nat_lt last_tick tick) _ _ b.1 in
    let d = peel (nat_le most_planned (length s.planned)) _ _ c.1 in
    let e = peel (nat_le most_serials (plans_of s tx.0).number) _ _ d.1 in
    let may : may_plan set s tx.0 tick ≡ true = may_plan_as set s tx.0 tick in_set ∙ all (nat_lt tick s.now) (nat_lt last_tick tick) (nat_lt tick (earliest set tx.0 (plans_of s tx.0))) (nat_le most_planned (length s.planned)) (nat_le most_serials (plans_of s tx.0).number) a.0 c.0 b.0 d.0 e.0 in
    ap (λ (b : Bool). given b p) may where
      all : (b1 b3 b2 b4 b5 : Bool) → b1 ≡ false → b3 ≡ false → b2 ≡ false → b4 ≡ false → b5 ≡ false → (true && not b1 && not b3 && not b2 && not b4 && not b5) ≡ true
      all false false false false false p q r s t = refl
      all true b3 b2 b4 b5 p q r s t = absurd cc
      all false true b2 b4 b5 p q r s t = absurd cc
      all false false true b4 b5 p q r s t = absurd cc
      all false false false true b5 p q r s t = absurd cc
      all false false false false true p q r s t = absurd cc
