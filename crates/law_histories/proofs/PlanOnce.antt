-- In a legal history a job is planned at most once: a plan is of the next job of its transaction, and afterwards another
-- is the next.
use Rattle.std.proofs.Common.{◌≡◌, ℕ, ◌+◌, ◌<◌, ◌≤◌, Bool, true, false, cond, List, [], ◌∷◌, ◌++◌, refl, ap, ◌∙◌, sym, subst, arith}
use Rattle.std.proofs.lemmas.Bool.{eq-eqb}
use Rattle.rt_base.specs.declared.ids.JobId.{JobId}
use Rattle.rt_base.specs.declared.ids.TxId.{TxId}
use Rattle.step_journal.specs.declared.entry.Entry.{Entry}
use Rattle.step_journal.specs.declared.entry.Entry.TheVariants.{Planned, Step, Blocked, Idle}
use Rattle.txn_set.specs.Set.{Set, IsCompiled}
use Rattle.step_journal.specs.State.{State, same_job, opening}
use Rattle.step_journal.specs.Step.{plans_of, next_job, step}
use Rattle.step_journal.specs.History.{event_of, state_after, IsLegalFrom, IsLegal, state_of}
use Rattle.law_histories.proofs.Invariant.{same_job_is}
use Rattle.law_histories.proofs.Pushes.{given_is, pushed}
use Rattle.law_histories.specs.Counting.{plans_in, plan_count, planned_by, planned_times}
use Rattle.law_histories.proofs.Rooms.{count_more}
use Rattle.law_histories.proofs.Counts.{legal_counted}

-- so many plans of a job are to come, and none where it was planned before
abbrev IsOnce : ℕ → List Entry → JobId → Type 0
IsOnce times before job = (times ≤ 1) × (job.serial < plan_count before job.tx.0 → times ≡ 0)

plan_at : (before : List Entry) (tx : TxId) (tick serial times : ℕ) (job : JobId) (b : Bool) → same_job job (record { tx = record { 0 = tx.0 }; serial = serial }) ≡ b → plan_count before tx.0 ≡ serial
    → IsOnce times (before ++ Planned tx tick ∷ []) job → IsOnce (cond b 1 0 + times) before job
plan_at before tx tick serial times job true e c h =
    let same : job ≡ record { tx = record { 0 = tx.0 }; serial = serial } = same_job_is _ _ e in
    let own : job.tx.0 ≡ tx.0 = ap (λ (j : JobId). j.tx.0) same in
    let last : job.serial ≡ serial = ap (λ (j : JobId). j.serial) same in
    let one : plans_in job.tx.0 (Planned tx tick) ≡ 1 = ap (λ (b : Bool). cond b 1 0) (eq-eqb _ _ own) in
    let count : plan_count before job.tx.0 ≡ serial = ap (plan_count before) own ∙ c in
    let none : times ≡ 0 = h.1 (omega (arith, count_more before (Planned tx tick) job.tx.0)) in
    (omega arith, λ lt. absurd (omega arith))
plan_at before tx tick serial times job false e c h = (omega (arith, h.0), λ lt. let none : times ≡ 0 = h.1 (omega (arith, count_more before (Planned tx tick) job.tx.0)) in omega arith)

other : (before : List Entry) (e : Entry) (times : ℕ) (job : JobId) → IsOnce times (before ++ e ∷ []) job → IsOnce (0 + times) before job
other before e times job h = (omega (arith, h.0), λ lt. let none : times ≡ 0 = h.1 (omega (arith, count_more before e job.tx.0)) in omega arith)

entry_once : (set : Set) (before : List Entry) (e : Entry) (times : ℕ) (job : JobId) → IsCompiled set → IsLegal set before → IsOnce times (before ++ e ∷ []) job → IsOnce (planned_by job (state_of set before) e + times) before job
entry_once set before (Planned tx tick) times job ok legal h =
    let c = (legal_counted set before ok legal).plannings.count tx.0 in
    plan_at before tx tick (plans_of (state_of set before) tx.0).number times job (same_job job (next_job (state_of set before) tx.0)) refl c h
entry_once set before (Step by op outcome over tick) times job ok legal h = other before (Step by op outcome over tick) times job h
entry_once set before (Blocked by op on ceiling tick) times job ok legal h = other before (Blocked by op on ceiling tick) times job h
entry_once set before (Idle from to) times job ok legal h = other before (Idle from to) times job h

once : (set : Set) (before rest : List Entry) (job : JobId) → IsCompiled set → IsLegal set before → IsLegalFrom set (state_of set before) rest → IsOnce (planned_times set (state_of set before) rest job) before job
once set before [] job ok legal from = (omega arith, λ lt. refl)
once set before (e ∷ rest) job ok legal from =
    let is = given_is (state_of set before) e (step set (state_of set before) (event_of e)) from.0 in
    let p = pushed set before e (state_after set (state_of set before) e) legal is in
    let more = once set (before ++ e ∷ []) rest job ok p.legal (subst (λ (s : State). IsLegalFrom set s rest) p.state from.1) in
    entry_once set before e (planned_times set (state_after set (state_of set before) e) rest job) job ok legal
    (subst (λ (s : State). IsOnce (planned_times set s rest job) (before ++ e ∷ []) job) (sym p.state) more)

pub planned_once : (set : Set) (entries : List Entry) (job : JobId) → IsCompiled set → IsLegal set entries → planned_times set (opening set) entries job ≤ 1
planned_once set entries job ok legal = (once set [] entries job ok tt legal).0
