-- An obedient body is not refused but for a lock.
use Rattle.std.proofs.Common.{◌≡◌, ℕ, ◌-◌, Bool, true, false, cond, not, List, ◌∷◌, ◌++◌, Option, None, Some, refl, ap, sym, ◌∙◌, subst, append_assoc}
use Rattle.std.proofs.lemmas.Bool.{and_parts}
use Rattle.std.specs.Prelude.{nat_lt, nat_le, is_some}
use Rattle.rt_base.specs.declared.ids.JobId.{JobId}
use Rattle.rt_base.specs.declared.ids.ItemId.{ItemId}
use Rattle.rt_base.specs.declared.operation.Op.{Op}
use Rattle.rt_base.specs.declared.operation.Op.TheVariants.{Read, Write, Commit}
use Rattle.rt_base.specs.declared.operation.Outcome.{Outcome}
use Rattle.txn_set.specs.declared.decl.TxnDecl.{TxnDecl}
use Rattle.txn_set.specs.Set.{Set, txn_of, may_read, may_write}
use Rattle.step_journal.specs.declared.entry.Entry.{Entry}
use Rattle.step_journal.specs.State.{State, Row, same_job, opening}
use Rattle.step_journal.specs.LockRule.{Above}
use Rattle.step_journal.specs.Running.{running, job_row}
use Rattle.step_journal.specs.Step.{may_ask, lock_refusal}
use Rattle.step_journal.specs.History.{IsLegal, state_of}
use Rattle.law_histories.proofs.Invariant.{same_job_is}
use Rattle.board.specs.declared.replies.StepReply.{StepReply}
use Rattle.board.specs.declared.replies.StepReply.TheVariants as reply
use Rattle.board.specs.Answers.{early_or, unwritten, unwritten_or, checked, lock_reply, asked_reply, running_reply, step_reply, ended_number, last_end}
use Rattle.board.proofs.Tests.{le_not_lt}
use Rattle.board.proofs.Asks.{complete_is}
use Rattle.txn_threads.specs.Rounds.{IsRefusal}
use Rattle.law_histories.specs.Sim.{Workload, IsScriptRun, op_asked}
use Rattle.sim_run.specs.Workloads.{ObeysAt}
use Rattle.sim_run.proofs.Histories.{legal_split}
use Rattle.law_runs.specs.Laws.{NoRefusal}
use Rattle.law_runs.proofs.Owners.{lies}
use Rattle.law_runs.proofs.SoFar.{history_so_far, seat_told}

abbrev IsFine : StepReply → Type 0
IsFine r = IsRefusal r → ⊥

either_fine : (b : Bool) (x y : StepReply) → IsFine x → IsFine y → IsFine (cond b x y)
either_fine true x y p q = p
either_fine false x y p q = q

-- what may be asked is refused by none of the tests

early_fine : (txn : TxnDecl) (row : Row) (rest : StepReply) (b : Bool) → nat_lt row.used txn.quiet ≡ b → not b ≡ true → IsFine rest → IsFine (cond b (reply.TooEarly (txn.quiet - row.used)) rest)
early_fine txn row rest true e h fine = absurd (cc h)
early_fine txn row rest false e h fine = fine

declared_fine : (a : Bool) (x : StepReply) (item : ItemId) → a ≡ true → IsFine x → IsFine (cond a x (reply.Undeclared item))
declared_fine true x item h fine = fine
declared_fine false x item h fine = absurd (cc h)

unwritten_fine : (o : Option ItemId) (rest : StepReply) → not (is_some o) ≡ true → IsFine rest → IsFine (unwritten_or o rest)
unwritten_fine None rest h fine = fine
unwritten_fine (Some item) rest h fine = absurd (cc h)

quiet_fine : (txn : TxnDecl) (row : Row) (rest : StepReply) → nat_le txn.quiet row.used ≡ true → IsFine rest → IsFine (early_or txn row rest)
quiet_fine txn row rest h fine = early_fine txn row rest (nat_lt row.used txn.quiet) refl (sym (le_not_lt txn.quiet row.used) ∙ h) fine

checked_fine : (set : Set) (row : Row) (op : Op) (rest : StepReply) → may_ask set row op ≡ true → IsFine rest → IsFine (checked set row op rest)
checked_fine set row (Read item) rest may fine =
    let txn : TxnDecl = txn_of set row.job.tx.0 in
    let parts = and_parts (may_read txn item.0) (nat_le txn.quiet row.used) may in
    declared_fine (may_read txn item.0) (early_or txn row rest) item parts.0 (quiet_fine txn row rest parts.1 fine)
checked_fine set row (Write item value) rest may fine =
    let txn : TxnDecl = txn_of set row.job.tx.0 in
    let parts = and_parts (may_write txn item.0) (nat_le txn.quiet row.used) may in
    declared_fine (may_write txn item.0) (early_or txn row rest) item parts.0 (quiet_fine txn row rest parts.1 fine)
checked_fine set row Commit rest may fine =
    let txn : TxnDecl = txn_of set row.job.tx.0 in
    unwritten_fine (unwritten set txn.writes row.work) rest (sym (complete_is set txn.writes row.work) ∙ may) fine
checked_fine set row other rest may fine = fine

lock_fine : (set : Set) (s : State) (row : Row) (op : Op) (o : Option Above) → IsFine (lock_reply set s row op o)
lock_fine set s row op None = λ h. h
lock_fine set s row op (Some above) = λ h. h

asked_fine : (set : Set) (s : State) (held places : ℕ) (op : Op) (row : Row) → may_ask set row op ≡ true → IsFine (asked_reply set s held places op row)
asked_fine set s held places op row may =
    checked_fine set row op (cond (nat_le places held) (reply.Full places) (lock_reply set s row op (lock_refusal set s row op))) may
    (either_fine (nat_le places held) (reply.Full places) (lock_reply set s row op (lock_refusal set s row op)) (λ h. h) (lock_fine set s row op (lock_refusal set s row op)))

own_fine : (set : Set) (s : State) (held places : ℕ) (job : JobId) (op : Op) (row : Row) (b : Bool) → same_job row.job job ≡ b → (row.job ≡ job → may_ask set row op ≡ true)
    → IsFine (cond b (asked_reply set s held places op row) (reply.NotYet row.job))
own_fine set s held places job op row true e may = asked_fine set s held places op row (may (same_job_is row.job job e))
own_fine set s held places job op row false e may = λ h. h

running_fine : (set : Set) (s : State) (held places : ℕ) (job : JobId) (op : Op) (o : Option Row) → ((row : Row) → o ≡ Some row → row.job ≡ job → may_ask set row op ≡ true)
    → IsFine (running_reply set s held places job op o)
running_fine set s held places job op None may = λ h. h
running_fine set s held places job op (Some row) may = own_fine set s held places job op row (same_job row.job job) refl (may row refl)

step_fine : (set : Set) (s : State) (held places : ℕ) (job : JobId) (op : Op) → ((row : Row) → running set s.rows ≡ Some row → row.job ≡ job → may_ask set row op ≡ true)
    → IsFine (step_reply set s held places job op)
step_fine set s held places job op may =
    either_fine (is_some (job_row s.rows job)) (running_reply set s held places job op (running set s.rows)) (reply.NoJob (ended_number s.ended job.tx.0) (last_end s.ended job.tx.0))
    (running_fine set s held places job op (running set s.rows) may) (λ h. h)

-- a history's beginning is a script run too
pub run_front : (w : Workload) (seen rest history : List Entry) → history ≡ seen ++ rest → IsScriptRun w history → IsScriptRun w seen
run_front w seen rest history is run = λ before after e parts.
    run before (after ++ rest) e (is ∙ (ap (λ (l : List Entry). l ++ rest) parts ∙ append_assoc before (e ∷ after) rest))

asks_same : (w : Workload) (seen : List Entry) (row : Row) (job : JobId) (op : Op) → ObeysAt w seen → running w.set (state_of w.set seen).rows ≡ Some row → row.job ≡ job → op ≡ op_asked w seen job
    → may_ask w.set row op ≡ true
asks_same w seen row job op obeys runs is asked = ap (may_ask w.set row) (asked ∙ ap (op_asked w seen) (sym is)) ∙ obeys row runs

pub no_refusal : {B : Type 0} (stands : B → List Entry → Type 0) (set : B → Set) (room first : B → ℕ) (kept : B → List Entry) → NoRefusal stands set room first kept
no_refusal stands set room first kept = λ w eager_jobs p b seats c h obedient k s job r held places at is answer refusal.
    let f = lies stands set room first kept w eager_jobs p b seats c h in
    let front = (f.each k s at).1 in
    let legal : IsLegal w.set s.seen = (legal_split w.set (opening w.set) s.seen front.0 (subst (IsLegal w.set) front.1 f.legal)).0 in
    let run : IsScriptRun w s.seen = run_front w s.seen front.0 c.history front.1 (history_so_far w eager_jobs seats c.history f).script_run in
    let op : Op = op_asked w s.seen job in
    let told = seat_told w eager_jobs seats c.history f k s at job is in
    let same : r ≡ step_reply w.set (state_of w.set s.seen) held places job op = answer ∙ ap (λ (l : List Outcome). step_reply w.set (state_of w.set s.seen) held places job (w.bodies job.tx.0 job.serial l)) (sym told) in
    step_fine w.set (state_of w.set s.seen) held places job op (λ row runs own_job. asks_same w s.seen row job op (obedient s.seen legal run) runs own_job refl)
    (subst IsRefusal same refusal)
