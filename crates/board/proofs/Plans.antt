-- The answer to plan is the definition's step.
use Rattle.std.proofs.Common.{◌≡◌, ℕ, ◌<◌, Bool, true, false, cond, not, ◌&&◌, length, None, Some, refl, ap, sym, ◌∙◌}
use Rattle.std.specs.Prelude.{nat_lt, nat_le, Result, Ok, Err}
use Rattle.rt_base.specs.declared.ids.TxId.{TxId}
use Rattle.rt_base.specs.declared.ids.JobId.{JobId}
use Rattle.step_journal.specs.declared.entry.Entry.{Entry}
use Rattle.step_journal.specs.declared.entry.Entry.TheVariants.{Planned}
use Rattle.txn_set.specs.Set.{Set}
use Rattle.step_journal.specs.State.{State}
use Rattle.step_journal.specs.Step.{plan, step, may_plan, given, with_plan, plans_of, earliest, next_job}
use Rattle.step_journal.specs.History.{entry_given}
use Rattle.rt_base.specs.declared.release.PlanRefused.{PlanRefused}
use Rattle.rt_base.specs.declared.release.PlanRefused.TheVariants as refusal
use Rattle.rt_base.specs.Planning.{last_tick, most_serials}
use Rattle.board.specs.Answers.{plan_reply, unless_refused, most_planned}
use Rattle.board.specs.Histories.{plan_entry}
use Rattle.board.proofs.Tests.{le_not_lt, lt_not_le, lt_false, lt_true}

-- five tests in a row and the room against one test of all
module _ (e1 e2 e3 e4 e5 e6 : PlanRefused) (job : JobId) where
  abbrev chain : Bool → Bool → Bool → Bool → Bool → Bool → Result JobId PlanRefused
  chain b1 b2 b3 b4 b5 b6 =
      unless_refused (cond b1 (Some e1) (cond b2 (Some e2) (cond b3 (Some e3) (cond b4 (Some e4) (cond b5 (Some e5) None))))) (cond b6 (Err e6) (Ok job))

  abbrev passes : Bool → Bool → Bool → Bool → Bool → Bool
  passes b1 b2 b3 b4 b5 = true && not b1 && not b3 && not b2 && not b4 && not b5

  chain_is : (tx : TxId) (tick : ℕ) (next : State) (b1 b2 b3 b4 b5 : Bool) → plan_entry tx tick (chain b1 b2 b3 b4 b5 false) ≡ entry_given (given (passes b1 b2 b3 b4 b5) (Planned tx tick, next))
  chain_is tx tick next true b2 b3 b4 b5 = refl
  chain_is tx tick next false true true b4 b5 = refl
  chain_is tx tick next false true false b4 b5 = refl
  chain_is tx tick next false false true b4 b5 = refl
  chain_is tx tick next false false false true b5 = refl
  chain_is tx tick next false false false false true = refl
  chain_is tx tick next false false false false false = refl

  chain_full : (tx : TxId) (tick : ℕ) (b1 b2 b3 b4 b5 : Bool) → plan_entry tx tick (chain b1 b2 b3 b4 b5 true) ≡ None
  chain_full tx tick true b2 b3 b4 b5 = refl
  chain_full tx tick false true b3 b4 b5 = refl
  chain_full tx tick false false true b4 b5 = refl
  chain_full tx tick false false false true b5 = refl
  chain_full tx tick false false false false true = refl
  chain_full tx tick false false false false false = refl

pub may_plan_as : (set : Set) (s : State) (tx tick : ℕ) → tx < length set.txns
    → may_plan set s tx tick ≡ (true && not (nat_lt tick s.now) && not (nat_lt last_tick tick) && not (nat_lt tick (earliest set tx (plans_of s tx))) && not (nat_le most_planned (length s.planned)) && not (nat_le most_serials (plans_of s tx).number))
unfolding may_plan
may_plan_as set s tx tick lt =
    let a = lt_true tx (length set.txns) lt in
    let b = le_not_lt s.now tick in
    let c = le_not_lt tick last_tick in
    let d = le_not_lt (earliest set tx (plans_of s tx)) tick in
    let e = lt_not_le (length s.planned) most_planned in
    let f = lt_not_le (plans_of s tx).number most_serials in
    cc (a, b, c, d, e, f)

pub plans_are_steps : (set : Set) (s : State) (kept room : ℕ) (tx : TxId) (tick : ℕ) → kept < room → tx.0 < length set.txns
    → plan_entry tx tick (plan_reply set s kept room tx.0 tick) ≡ entry_given (step set s (plan tx.0 tick))
unfolding step
plans_are_steps set s kept room tx tick lt in_set =
    let full = lt_false kept room lt in
    let p : Entry × State = (Planned tx tick, with_plan s tx.0 tick) in
    ap (λ (b : Bool). plan_entry tx tick (chain (refusal.Past s.now) (refusal.TooSoon (earliest set tx.0 (plans_of s tx.0))) (refusal.TooFar last_tick) (refusal.CalendarFull most_planned) (refusal.NoSerial most_serials) (refusal.Full room) (next_job s tx.0)
    (nat_lt tick s.now) (nat_lt tick (earliest set tx.0 (plans_of s tx.0))) (nat_lt last_tick tick) (nat_le most_planned (length s.planned)) (nat_le most_serials (plans_of s tx.0).number) b)) full
    ∙ (chain_is (refusal.Past s.now) (refusal.TooSoon (earliest set tx.0 (plans_of s tx.0))) (refusal.TooFar last_tick) (refusal.CalendarFull most_planned) (refusal.NoSerial most_serials) (refusal.Full room) (next_job s tx.0) tx tick (with_plan s tx.0 tick)
    (nat_lt tick s.now) (nat_lt tick (earliest set tx.0 (plans_of s tx.0))) (nat_lt last_tick tick) (nat_le most_planned (length s.planned)) (nat_le most_serials (plans_of s tx.0).number)
    ∙ ap (λ (b : Bool). entry_given (given b p)) (sym (may_plan_as set s tx.0 tick in_set)))

pub plans_full : (set : Set) (s : State) (kept room : ℕ) (tx : TxId) (tick : ℕ) → nat_le room kept ≡ true → plan_entry tx tick (plan_reply set s kept room tx.0 tick) ≡ None
plans_full set s kept room tx tick full =
    ap (λ (b : Bool). plan_entry tx tick (chain (refusal.Past s.now) (refusal.TooSoon (earliest set tx.0 (plans_of s tx.0))) (refusal.TooFar last_tick) (refusal.CalendarFull most_planned) (refusal.NoSerial most_serials) (refusal.Full room) (next_job s tx.0)
    (nat_lt tick s.now) (nat_lt tick (earliest set tx.0 (plans_of s tx.0))) (nat_lt last_tick tick) (nat_le most_planned (length s.planned)) (nat_le most_serials (plans_of s tx.0).number) b)) full
    ∙ chain_full (refusal.Past s.now) (refusal.TooSoon (earliest set tx.0 (plans_of s tx.0))) (refusal.TooFar last_tick) (refusal.CalendarFull most_planned) (refusal.NoSerial most_serials) (refusal.Full room) (next_job s tx.0) tx tick
    (nat_lt tick s.now) (nat_lt tick (earliest set tx.0 (plans_of s tx.0))) (nat_lt last_tick tick) (nat_le most_planned (length s.planned)) (nat_le most_serials (plans_of s tx.0).number)
