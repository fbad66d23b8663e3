-- The answers to step and to idle are the definition's steps.
use Rattle.std.proofs.Common.{◌≡◌, ℕ, ◌-◌, ◌<◌, Bool, true, false, cond, not, ◌&&◌, ◌||◌, List, [], ◌∷◌, Option, None, Some, refl, ap, sym, ◌∙◌, subst}
use Rattle.std.proofs.lemmas.Bool.{eq-eqb, and_from}
use Rattle.std.specs.Prelude.{nat_lt, nat_le, is_some}
use Rattle.std.specs.Option.{option_map, option_and_then}
use Rattle.rt_base.specs.declared.ids.JobId.{JobId}
use Rattle.rt_base.specs.declared.ids.ItemId.{ItemId}
use Rattle.rt_base.specs.declared.operation.Op.{Op}
use Rattle.rt_base.specs.declared.operation.Op.TheVariants.{Read, Write, Commit}
use Rattle.txn_set.specs.declared.decl.TxnDecl.{TxnDecl}
use Rattle.rt_base.specs.declared.operation.End.{End}
use Rattle.step_journal.specs.declared.entry.Entry.{Entry}
use Rattle.step_journal.specs.declared.entry.Entry.TheVariants.{Idle}
use Rattle.txn_set.specs.Set.{Set, IsCompiled, txn_of, may_read, may_write}
use Rattle.item_model.specs.Kinds.{is_dated}
use Rattle.item_model.specs.Work.{Work, has_written, is_complete}
use Rattle.step_journal.specs.State.{State, Row, same_job, pending}
use Rattle.step_journal.specs.LockRule.{Above}
use Rattle.step_journal.specs.Running.{running, job_row, of_job}
use Rattle.step_journal.specs.Step.{ask, idle, step, given, asked, answered, idled, may_ask, lock_refusal, next_tick}
use Rattle.step_journal.specs.Instant.{arrived}
use Rattle.step_journal.specs.History.{IsLegal, state_of, entry_given}
use Rattle.law_histories.proofs.Invariant.{IsPending, running_is, same_job_is}
use Rattle.law_histories.proofs.Members.{in_pending, In}
use Rattle.law_histories.proofs.Calendar.{named_from}
use Rattle.law_histories.proofs.Never.{legal_sound, never_stuck, refused_all}
use Rattle.board.specs.declared.replies.StepReply.{StepReply}
use Rattle.board.specs.declared.replies.StepReply.TheVariants as reply
use Rattle.board.specs.declared.replies.IdleReply.TheVariants as answer
use Rattle.board.specs.Answers.{step_reply, running_reply, asked_reply, checked, early_or, unwritten_or, unwritten, is_missed, lock_reply, ended_number, last_end, idle_reply, idle_reply_at, waiting_reply}
use Rattle.board.specs.Histories.{step_entry, idle_entry}
use Rattle.board.proofs.Tests.{le_not_lt, lt_false, all_none, missed_not}

pub job_row_here : (rows : List (Option Row)) (y : Row) → IsPending rows y → job_row rows y.job ≡ Some y
job_row_here rows y h = ap (option_and_then (of_job y.job)) h ∙ own y (same_job y.job y.job) (and_from _ _ (eq-eqb y.job.tx.0 y.job.tx.0 refl) (eq-eqb y.job.serial y.job.serial refl)) where
  own : (y : Row) (b : Bool) → b ≡ true → cond b (Some y) None ≡ Some y
  own y true e = refl
  own y false e = absurd cc

pub complete_is : (set : Set) (writes : List ItemId) (work : Work) → is_complete set.items writes work ≡ not (is_some (unwritten set writes work))
complete_is set writes work = all_none (is_missed set work) (λ i. not (is_dated set.items i.0) || has_written work i.0) writes (λ i. missed_not (is_dated set.items i.0) (has_written work i.0))

early_is : (now : ℕ) (job : JobId) (op : Op) (txn : TxnDecl) (row : Row) (rest : StepReply) (p : Entry × State) (b declared : Bool) (item : ItemId) → step_entry now job op rest ≡ Some p.0 → nat_lt row.used txn.quiet ≡ b
    → step_entry now job op (cond declared (early_or txn row rest) (reply.Undeclared item)) ≡ entry_given (given (declared && not b) p)
early_is now job op txn row rest p true true item h e = ap (λ (c : Bool). step_entry now job op (cond c (reply.TooEarly (txn.quiet - row.used)) rest)) e
early_is now job op txn row rest p false true item h e = ap (λ (c : Bool). step_entry now job op (cond c (reply.TooEarly (txn.quiet - row.used)) rest)) e ∙ h
early_is now job op txn row rest p b false item h e = refl

-- the refusals before the room is looked at are those of may_ask
unwritten_at : (now : ℕ) (job : JobId) (op : Op) (rest : StepReply) (p : Entry × State) (o : Option ItemId) → step_entry now job op rest ≡ Some p.0 → step_entry now job op (unwritten_or o rest) ≡ entry_given (given (not (is_some o)) p)
unwritten_at now job op rest p None h = h
unwritten_at now job op rest p (Some item) h = refl

checked_is : (set : Set) (now : ℕ) (job : JobId) (row : Row) (op asks : Op) (rest : StepReply) (p : Entry × State) → step_entry now job asks rest ≡ Some p.0
    → step_entry now job asks (checked set row op rest) ≡ entry_given (given (may_ask set row op) p)
checked_is set now job row (Read item) asks rest p h =
    let txn : TxnDecl = txn_of set row.job.tx.0 in
    early_is now job asks txn row rest p (nat_lt row.used txn.quiet) (may_read txn item.0) item h refl
    ∙ ap (λ (b : Bool). entry_given (given (may_read txn item.0 && b) p)) (sym (le_not_lt txn.quiet row.used))
checked_is set now job row (Write item value) asks rest p h =
    let txn : TxnDecl = txn_of set row.job.tx.0 in
    early_is now job asks txn row rest p (nat_lt row.used txn.quiet) (may_write txn item.0) item h refl
    ∙ ap (λ (b : Bool). entry_given (given (may_write txn item.0 && b) p)) (sym (le_not_lt txn.quiet row.used))
checked_is set now job row Commit asks rest p h =
    unwritten_at now job asks rest p (unwritten set (txn_of set row.job.tx.0).writes row.work) h
    ∙ ap (λ (b : Bool). entry_given (given b p)) (sym (complete_is set (txn_of set row.job.tx.0).writes row.work))
checked_is set now job row other asks rest p h = h

lock_is : (set : Set) (s : State) (row : Row) (op : Op) (o : Option Above) → step_entry s.now row.job op (lock_reply set s row op o) ≡ Some (answered set s row op o).0
lock_is set s row op None = refl
lock_is set s row op (Some above) = refl

asked_is : (set : Set) (s : State) (kept room : ℕ) (row : Row) (op : Op) → kept < room → step_entry s.now row.job op (asked_reply set s kept room op row) ≡ entry_given (asked set s op row)
asked_is set s kept room row op lt =
    checked_is set s.now row.job row op op (cond (nat_le room kept) (reply.Full room) (lock_reply set s row op (lock_refusal set s row op))) (answered set s row op (lock_refusal set s row op))
    (ap (λ (b : Bool). step_entry s.now row.job op (cond b (reply.Full room) (lock_reply set s row op (lock_refusal set s row op)))) (lt_false kept room lt) ∙ lock_is set s row op (lock_refusal set s row op))

module _ (set : Set) (s : State) (kept room : ℕ) (job : JobId) (op : Op) (lt : kept < room) (own : (x : Row) → running set s.rows ≡ Some x → IsPending s.rows x) where
  none_at : (b : Bool) (n : ℕ) (l : Option End) → step_entry s.now job op (cond b (reply.NotYet job) (reply.NoJob n l)) ≡ None
  none_at true n l = refl
  none_at false n l = refl

  other_at : (b : Bool) (x : Row) (n : ℕ) (l : Option End) → step_entry s.now job op (cond b (reply.NotYet x.job) (reply.NoJob n l)) ≡ None
  other_at true x n l = refl
  other_at false x n l = refl

  some_at : (x : Row) (b : Bool) → running set s.rows ≡ Some x → same_job x.job job ≡ b
      → step_entry s.now job op (cond (is_some (job_row s.rows job)) (cond b (asked_reply set s kept room op x) (reply.NotYet x.job)) (reply.NoJob (ended_number s.ended job.tx.0) (last_end s.ended job.tx.0)))
      ≡ entry_given (option_and_then (asked set s op) (cond b (Some x) None))
  some_at x false e t = other_at (is_some (job_row s.rows job)) x (ended_number s.ended job.tx.0) (last_end s.ended job.tx.0)
  some_at x true e t =
      let same : x.job ≡ job = same_job_is x.job job t in
      let here : job_row s.rows job ≡ Some x = subst (λ (k : JobId). job_row s.rows k ≡ Some x) same (job_row_here s.rows x (own x e)) in
      ap (λ (o : Option Row). step_entry s.now job op (cond (is_some o) (asked_reply set s kept room op x) (reply.NoJob (ended_number s.ended job.tx.0) (last_end s.ended job.tx.0)))) here
      ∙ subst (λ (k : JobId). step_entry s.now k op (asked_reply set s kept room op x) ≡ entry_given (asked set s op x)) same (asked_is set s kept room x op lt)

  running_at : (o : Option Row) → running set s.rows ≡ o
      → step_entry s.now job op (cond (is_some (job_row s.rows job)) (running_reply set s kept room job op o) (reply.NoJob (ended_number s.ended job.tx.0) (last_end s.ended job.tx.0)))
      ≡ entry_given (option_and_then (asked set s op) (option_and_then (of_job job) o))
  running_at None e = none_at (is_some (job_row s.rows job)) (ended_number s.ended job.tx.0) (last_end s.ended job.tx.0)
  running_at (Some x) e = some_at x (same_job x.job job) e refl

  pub step_is : step_entry s.now job op (step_reply set s kept room job op) ≡ entry_given (step set s (ask job op))
  unfolding step
  step_is = running_at (running set s.rows) refl

-- a running job is pending, and where there is none nothing is

pub running_here : (set : Set) (history : List Entry) → IsCompiled set → IsLegal set history → (x : Row) → running set (state_of set history).rows ≡ Some x → IsPending (state_of set history).rows x
running_here set history ok legal x e =
    let sound = legal_sound set history ok legal in
    (running_is set (state_of set history).rows (refused_all (λ _. false) history) x (named_from set (state_of set history).rows ok sound.frame) sound.protocol e).here

pub steps_are_steps : (set : Set) (history : List Entry) (kept room : ℕ) (job : JobId) (op : Op) → IsCompiled set → IsLegal set history → kept < room
    → step_entry (state_of set history).now job op (step_reply set (state_of set history) kept room job op) ≡ entry_given (step set (state_of set history) (ask job op))
steps_are_steps set history kept room job op ok legal lt = step_is set (state_of set history) kept room job op lt (running_here set history ok legal)

idle_next : (set : Set) (s : State) (kept room : ℕ) (o : Option ℕ) → kept < room → idle_entry s.now (waiting_reply kept room o) ≡ entry_given (option_map (λ t. (Idle s.now t, arrived set t s)) o)
idle_next set s kept room None lt = refl
idle_next set s kept room (Some t) lt = ap (λ (b : Bool). idle_entry s.now (cond b (answer.Full room) (answer.Advanced t))) (lt_false kept room lt)

not_idle : (set : Set) (s : State) (x : Row) (rows : List Row) → In x rows → None ≡ entry_given (idled set s rows)
not_idle set s x [] i = absurd i
not_idle set s x (r ∷ rs) i = refl

idle_at : (set : Set) (s : State) (kept room : ℕ) (o : Option Row) → kept < room → ((x : Row) → o ≡ Some x → IsPending s.rows x) → (o ≡ None → pending s.rows ≡ [])
    → idle_entry s.now (idle_reply_at s kept room o) ≡ entry_given (idled set s (pending s.rows))
idle_at set s kept room None lt here none = idle_next set s kept room (next_tick s.planned) lt ∙ ap (λ (l : List Row). entry_given (idled set s l)) (sym (none refl))
idle_at set s kept room (Some x) lt here none = not_idle set s x (pending s.rows) (in_pending s.rows x.job.tx.0 x (here x refl))

pub idles_are_steps : (set : Set) (history : List Entry) (kept room : ℕ) → IsCompiled set → IsLegal set history → kept < room
    → idle_entry (state_of set history).now (idle_reply set (state_of set history) kept room) ≡ entry_given (step set (state_of set history) idle)
unfolding step
idles_are_steps set history kept room ok legal lt =
    idle_at set (state_of set history) kept room (running set (state_of set history).rows) lt (running_here set history ok legal) ((never_stuck set history ok legal).runs)
