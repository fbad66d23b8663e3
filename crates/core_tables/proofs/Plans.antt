-- The calendar's answers are those of the state, and a plan.
use Rattle.std.proofs.Common.{◌≡◌, ℕ, ◌+◌, ◌<◌, ◌≤◌, ◌==◌, Bool, cond, List, [], ◌∷◌, length, Option, None, Some, Result, Ok, Err, get_or, refl, ap, sym, ◌∙◌}
use Rattle.std.proofs.Math.ListN.{get_or-map}
use Rattle.std.proofs.lemmas.Bool.{le-leb}
use Rattle.board.proofs.Tests.{lt_false}
use Rattle.std.proofs.lemmas.List.Sorted.{length_permutation}
use Rattle.std.specs.Prelude.{nat_le}
use Rattle.rt_base.specs.declared.ids.JobId.{JobId}
use Rattle.rt_base.specs.declared.release.Plans.{Plans}
use Rattle.rt_base.specs.declared.release.Release.{Release}
use Rattle.rt_base.specs.declared.release.PlanRefused.{PlanRefused}
use Rattle.rt_base.specs.declared.release.PlanRefused.TheVariants as refused
use Rattle.rt_base.specs.Planning.{calendar_refusal}
use Rattle.release_calendar.specs.Agenda.{earliest as earliest_by, refusal, plans_of as plans_by, least_tick, earlier as earlier_by}
use Rattle.txn_set.specs.Set.{Set, txn_of, no_txn}
use Rattle.txn_set.specs.declared.decl.TxnDecl.{TxnDecl}
use Rattle.step_journal.specs.State.{State}
use Rattle.step_journal.specs.Step.{plans_of, earliest, next_job, next_tick, earlier}
use Rattle.board.specs.Answers.{most_planned, plan_reply, unless_refused}
use Rattle.core_tables.specs.Seen.{TablesSeen}
use Rattle.core_tables.specs.Tables.{AreTables}

-- the calendar's words are the state's

period_at : (set : Set) (t : TablesSeen) (s : State) (tx : ℕ) → AreTables set t s → get_or t.calendar.periods tx 0 ≡ (txn_of set tx).period
period_at set t s tx a = ap (λ (l : List ℕ). get_or l tx 0) a.periods ∙ get_or-map (λ (x : TxnDecl). x.period) set.txns tx no_txn

pub plans_at : (set : Set) (t : TablesSeen) (s : State) (tx : ℕ) → AreTables set t s → plans_by t.calendar tx ≡ plans_of s tx
plans_at set t s tx a = ap (λ (l : List Plans). get_or l tx (record { number = 0; last = 0 })) a.plans

pub earliest_at : (set : Set) (t : TablesSeen) (s : State) (tx : ℕ) → AreTables set t s → earliest_by t.calendar tx ≡ earliest set tx (plans_of s tx)
earliest_at set t s tx a =
    ap (λ (p : Plans). cond (p.number == 0) 0 (p.last + get_or t.calendar.periods tx 0)) (plans_at set t s tx a)
    ∙ ap (λ (n : ℕ). cond ((plans_of s tx).number == 0) 0 ((plans_of s tx).last + n)) (period_at set t s tx a)

pub refusal_at : (set : Set) (t : TablesSeen) (s : State) (tx tick : ℕ) → AreTables set t s
    → refusal t.calendar tx tick t.clock ≡ calendar_refusal tick s.now (earliest set tx (plans_of s tx)) (length s.planned) most_planned (plans_of s tx).number
refusal_at set t s tx tick a =
    ap (λ (n : ℕ). calendar_refusal tick n (earliest_by t.calendar tx) (length t.calendar.planned) t.calendar.room (plans_by t.calendar tx).number) a.now
    ∙ (ap (λ (n : ℕ). calendar_refusal tick s.now n (length t.calendar.planned) t.calendar.room (plans_by t.calendar tx).number) (earliest_at set t s tx a)
    ∙ (ap (λ (n : ℕ). calendar_refusal tick s.now (earliest set tx (plans_of s tx)) n t.calendar.room (plans_by t.calendar tx).number) (length_permutation s.planned t.calendar.planned a.planned)
    ∙ (ap (λ (n : ℕ). calendar_refusal tick s.now (earliest set tx (plans_of s tx)) (length s.planned) n (plans_by t.calendar tx).number) a.room
    ∙ ap (λ (p : Plans). calendar_refusal tick s.now (earliest set tx (plans_of s tx)) (length s.planned) most_planned p.number) (plans_at set t s tx a))))

-- the answers to a plan

abbrev full_or : ℕ → ℕ → JobId → Result JobId PlanRefused
full_or kept room job = cond (nat_le room kept) (Err (refused.Full room)) (Ok job)

pub plan_refused : (set : Set) (t : TablesSeen) (s : State) (kept room tx tick : ℕ) (e : PlanRefused) → AreTables set t s → refusal t.calendar tx tick t.clock ≡ Some e → Err e ≡ plan_reply set s kept room tx tick
plan_refused set t s kept room tx tick e a h =
    ap (λ (o : Option PlanRefused). unless_refused o (full_or kept room (next_job s tx))) (sym h ∙ refusal_at set t s tx tick a)

pub plan_full : (set : Set) (t : TablesSeen) (s : State) (kept room tx tick : ℕ) → AreTables set t s → refusal t.calendar tx tick t.clock ≡ None → room ≤ kept → Err (refused.Full room) ≡ plan_reply set s kept room tx tick
plan_full set t s kept room tx tick a h full =
    ap (λ (b : Bool). cond {A = Result JobId PlanRefused} b (Err (refused.Full room)) (Ok (next_job s tx))) (sym (le-leb room kept full))
    ∙ ap (λ (o : Option PlanRefused). unless_refused o (full_or kept room (next_job s tx))) (sym h ∙ refusal_at set t s tx tick a)

pub plan_ok : (set : Set) (t : TablesSeen) (s : State) (kept room tx tick serial : ℕ) → AreTables set t s → refusal t.calendar tx tick t.clock ≡ None → kept < room → serial ≡ (plans_by t.calendar tx).number
    → Ok (record { tx = record { 0 = tx }; serial = serial }) ≡ plan_reply set s kept room tx tick
plan_ok set t s kept room tx tick serial a h room_left is =
    ap (λ (n : ℕ). Ok (record { tx = record { 0 = tx }; serial = n })) (is ∙ ap (λ (p : Plans). p.number) (plans_at set t s tx a))
    ∙ (ap (λ (b : Bool). cond {A = Result JobId PlanRefused} b (Err (refused.Full room)) (Ok (next_job s tx))) (sym (lt_false kept room room_left))
    ∙ ap (λ (o : Option PlanRefused). unless_refused o (full_or kept room (next_job s tx))) (sym h ∙ refusal_at set t s tx tick a))

-- the least planned tick

pub least_is : (planned : List Release) → least_tick planned ≡ next_tick planned
least_is [] = refl
least_is (r ∷ rs) = at (least_tick rs) (next_tick rs) (least_is rs) where
  at : (o p : Option ℕ) → o ≡ p → Some (earlier_by r.tick o) ≡ Some (earlier r.tick p)
  at None None e = refl
  at None (Some u) e = absurd cc
  at (Some u) None e = absurd cc
  at (Some u) (Some v) e = ap (λ (o : Option ℕ). Some (earlier r.tick o)) e
