-- What is asked of a transaction that the set does not have is no legal event.
use Rattle.std.proofs.Common.{◌≡◌, ℕ, ◌-◌, ◌^◌, ◌<◌, Bool, false, cond, ◌&&◌, List, length, Option, None, Some, refl, ap, sym, ◌∙◌, arith}
use Rattle.std.proofs.lemmas.Bool.{lt-ltb}
use Rattle.std.specs.Prelude.{nat_lt, nat_le}
use Rattle.std.specs.Option.{option_and_then}
use Rattle.rt_base.specs.declared.ids.JobId.{JobId}
use Rattle.rt_base.specs.declared.operation.Op.{Op}
use Rattle.txn_set.specs.Set.{Set, IsCompiled}
use Rattle.step_journal.specs.declared.entry.Entry.{Entry}
use Rattle.step_journal.specs.declared.entry.Entry.TheVariants.{Planned}
use Rattle.step_journal.specs.State.{State, Row, same_job}
use Rattle.step_journal.specs.Running.{running, of_job}
use Rattle.step_journal.specs.Step.{plan, ask, given, may_plan, earliest, plans_of, with_plan, asked, step}
use Rattle.step_journal.specs.History.{IsLegal, state_of, entry_given}
use Rattle.law_histories.proofs.Invariant.{in_range}
use Rattle.law_histories.proofs.Never.{legal_sound}
use Rattle.law_histories.proofs.SerialSteps.{other_false}
use Rattle.board.proofs.Asks.{running_here}
use Rattle.job_rows.proofs.Bounding.{clash}

pub plan_outside : (set : Set) (s : State) (tx tick : ℕ) → nat_lt tx (length set.txns) ≡ false → None ≡ entry_given (step set s (plan tx tick))
unfolding step may_plan
plan_outside set s tx tick out =
    sym (ap (λ (b : Bool). entry_given (given (b && nat_le s.now tick && nat_le tick (2 ^ 40) && nat_le (earliest set tx (plans_of s tx)) tick && nat_lt (length s.planned) 65536 && nat_lt (plans_of s tx).number (2 ^ 32 - 1)) (Planned (record { 0 = tx }) tick, with_plan s tx tick))) out)

asks_nobody : (set : Set) (s : State) (job : JobId) (op : Op) (o : Option Row) → ((x : Row) → o ≡ Some x → same_job x.job job ≡ false) → None ≡ entry_given (option_and_then (asked set s op) (option_and_then (of_job job) o))
asks_nobody set s job op None h = refl
asks_nobody set s job op (Some x) h = sym (ap (λ (b : Bool). entry_given (option_and_then (asked set s op) (cond b (Some x) None))) (h x refl))

pub ask_outside : (set : Set) (history : List Entry) (job : JobId) (op : Op) → IsCompiled set → IsLegal set history → nat_lt job.tx.0 (length set.txns) ≡ false → None ≡ entry_given (step set (state_of set history) (ask job op))
unfolding step
ask_outside set history job op ok legal out = asks_nobody set (state_of set history) job op (running set (state_of set history).rows) (λ x runs.
    let here = running_here set history ok legal x runs in
    let lt : x.job.tx.0 < length set.txns = omega (arith, in_range (state_of set history).rows x.job.tx.0 x here, (legal_sound set history ok legal).frame.count) in
    other_false x.job job (λ same. clash (nat_lt job.tx.0 (length set.txns)) (ap (λ (j : JobId). nat_lt j.tx.0 (length set.txns)) (sym same) ∙ lt-ltb _ _ lt) out))
