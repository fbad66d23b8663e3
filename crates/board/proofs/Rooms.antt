-- Without room no answer appends an entry, so an entry that is appended is always the definition's.
use Rattle.std.proofs.Common.{inl, inr, ◌≡◌, ℕ, ◌-◌, ◌<◌, Bool, true, false, cond, length, List, Option, None, Some, refl, ap, sym, ◌∙◌}
use Rattle.std.proofs.lemmas.Bool.Decides.{leb_tells}
use Rattle.std.specs.Prelude.{nat_lt, nat_le, is_some}
use Rattle.rt_base.specs.declared.ids.TxId.{TxId}
use Rattle.rt_base.specs.declared.ids.ItemId.{ItemId}
use Rattle.rt_base.specs.declared.ids.JobId.{JobId}
use Rattle.txn_set.specs.declared.decl.TxnDecl.{TxnDecl}
use Rattle.rt_base.specs.declared.operation.End.{End}
use Rattle.rt_base.specs.declared.operation.Op.{Op}
use Rattle.rt_base.specs.declared.operation.Op.TheVariants.{Read, Write, Commit}
use Rattle.step_journal.specs.declared.entry.Entry.{Entry}
use Rattle.txn_set.specs.Set.{Set, IsCompiled, txn_of, may_read, may_write}
use Rattle.step_journal.specs.State.{State, Row, same_job}
use Rattle.step_journal.specs.Running.{running, job_row}
use Rattle.step_journal.specs.Step.{plan, ask, idle, step, lock_refusal, next_tick}
use Rattle.step_journal.specs.History.{IsLegal, state_of, entry_given}
use Rattle.board.specs.declared.replies.StepReply.{StepReply}
use Rattle.board.specs.declared.replies.StepReply.TheVariants as reply
use Rattle.board.specs.declared.replies.IdleReply.TheVariants as answer
use Rattle.board.specs.Answers.{plan_reply, step_reply, running_reply, asked_reply, checked, unwritten, unwritten_or, lock_reply, ended_number, last_end, idle_reply, idle_reply_at, waiting_reply}
use Rattle.board.specs.Histories.{plan_entry, step_entry, idle_entry}
use Rattle.board.proofs.Plans.{plans_are_steps, plans_full}
use Rattle.board.proofs.Asks.{steps_are_steps, idles_are_steps}

early_full : (now : ℕ) (job : JobId) (op : Op) (txn : TxnDecl) (row : Row) (rest : StepReply) (item : ItemId) (declared early : Bool) → step_entry now job op rest ≡ None
    → step_entry now job op (cond declared (cond early (reply.TooEarly (txn.quiet - row.used)) rest) (reply.Undeclared item)) ≡ None
early_full now job op txn row rest item true true h = refl
early_full now job op txn row rest item true false h = h
early_full now job op txn row rest item false early h = refl

unwritten_full : (now : ℕ) (job : JobId) (op : Op) (rest : StepReply) (o : Option ItemId) → step_entry now job op rest ≡ None → step_entry now job op (unwritten_or o rest) ≡ None
unwritten_full now job op rest None h = h
unwritten_full now job op rest (Some item) h = refl

checked_full : (set : Set) (now : ℕ) (job : JobId) (row : Row) (asks op : Op) (rest : StepReply) → step_entry now job asks rest ≡ None → step_entry now job asks (checked set row op rest) ≡ None
checked_full set now job row asks (Read item) rest h = let txn : TxnDecl = txn_of set row.job.tx.0 in early_full now job asks txn row rest item (may_read txn item.0) (nat_lt row.used txn.quiet) h
checked_full set now job row asks (Write item value) rest h = let txn : TxnDecl = txn_of set row.job.tx.0 in early_full now job asks txn row rest item (may_write txn item.0) (nat_lt row.used txn.quiet) h
checked_full set now job row asks Commit rest h = unwritten_full now job asks rest (unwritten set (txn_of set row.job.tx.0).writes row.work) h
checked_full set now job row asks other rest h = h

module _ (set : Set) (s : State) (kept room : ℕ) (job : JobId) (op : Op) (full : nat_le room kept ≡ true) where
  asked_full : (x : Row) → step_entry s.now job op (asked_reply set s kept room op x) ≡ None
  asked_full x =
      checked_full set s.now job x op op (cond (nat_le room kept) (reply.Full room) (lock_reply set s x op (lock_refusal set s x op)))
      (ap (λ (b : Bool). step_entry s.now job op (cond b (reply.Full room) (lock_reply set s x op (lock_refusal set s x op)))) full)

  running_full : (here own : Bool) (o : Option Row) (n : ℕ) (l : Option End)
      → step_entry s.now job op (cond here (running_reply set s kept room job op o) (reply.NoJob n l)) ≡ None
  running_full false own o n l = refl
  running_full true own None n l = refl
  running_full true own (Some x) n l = own_full x (same_job x.job job) where
    own_full : (x : Row) (b : Bool) → step_entry s.now job op (cond b (asked_reply set s kept room op x) (reply.NotYet x.job)) ≡ None
    own_full x true = asked_full x
    own_full x false = refl

  pub steps_full : step_entry s.now job op (step_reply set s kept room job op) ≡ None
  steps_full = running_full (is_some (job_row s.rows job)) true (running set s.rows) (ended_number s.ended job.tx.0) (last_end s.ended job.tx.0)

idles_full_at : (s : State) (kept room : ℕ) (o : Option Row) (n : Option ℕ) → nat_le room kept ≡ true → next_tick s.planned ≡ n → idle_entry s.now (idle_reply_at s kept room o) ≡ None
idles_full_at s kept room (Some x) n full e = refl
idles_full_at s kept room None None full e = ap (λ (o : Option ℕ). idle_entry s.now (waiting_reply kept room o)) e
idles_full_at s kept room None (Some t) full e = ap (λ (o : Option ℕ). idle_entry s.now (waiting_reply kept room o)) e ∙ ap (λ (b : Bool). idle_entry s.now (cond b (answer.Full room) (answer.Advanced t))) full

-- an answer that is none without room, and with room is that of the step
roomy : {A : Type 0} (kept room : ℕ) (x y : Option A) (e : A) → (nat_le room kept ≡ true → x ≡ None) → (kept < room → x ≡ y) → x ≡ Some e → y ≡ Some e
roomy kept room x y e full free is = elim (leb_tells room kept) [
  | inl t ↦ absurd (nothing x e (full t.0) is)
  | inr f ↦ sym (free f.1) ∙ is
] where
  nothing : {A : Type 0} (x : Option A) (e : A) → x ≡ None → x ≡ Some e → ⊥
  nothing x e a b = cc

pub appends_are_steps : (set : Set) (history : List Entry) (kept room : ℕ) (tx : TxId) (tick : ℕ) (job : JobId) (op : Op) (e : Entry) → IsCompiled set → IsLegal set history → tx.0 < length set.txns
    → (plan_entry tx tick (plan_reply set (state_of set history) kept room tx.0 tick) ≡ Some e → entry_given (step set (state_of set history) (plan tx.0 tick)) ≡ Some e)
    × (step_entry (state_of set history).now job op (step_reply set (state_of set history) kept room job op) ≡ Some e → entry_given (step set (state_of set history) (ask job op)) ≡ Some e)
    × (idle_entry (state_of set history).now (idle_reply set (state_of set history) kept room) ≡ Some e → entry_given (step set (state_of set history) idle) ≡ Some e)
appends_are_steps set history kept room tx tick job op e ok legal in_set = (
  roomy kept room _ _ e (λ f. plans_full set (state_of set history) kept room tx tick f) (λ lt. plans_are_steps set (state_of set history) kept room tx tick lt in_set),
  roomy kept room _ _ e (λ f. steps_full set (state_of set history) kept room job op f) (λ lt. steps_are_steps set history kept room job op ok legal lt),
  roomy kept room _ _ e (λ f. idles_full_at (state_of set history) kept room (running set (state_of set history).rows) (next_tick (state_of set history).planned) f refl) (λ lt. idles_are_steps set history kept room ok legal lt),
)
