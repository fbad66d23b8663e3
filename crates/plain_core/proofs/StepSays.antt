-- The answer to step that the code finds is the definition's.
use Rattle.std.proofs.Common.{◌≡◌, ℕ, ◌+◌, ◌<◌, ◌==◌, Bool, true, false, cond, length, List, Option, None, Some, refl, ap, ◌∙◌, subst}
use Rattle.std.specs.Prelude.{nat_le, is_some}
use Rattle.std.specs.Option.{option_map, option_and_then}
use Rattle.rt_base.specs.declared.ids.JobId.{JobId}
use Rattle.rt_base.specs.declared.operation.Op.{Op}
use Rattle.rt_base.specs.declared.operation.Op.TheVariants.{Read}
use Rattle.step_journal.specs.declared.entry.Entry.{Entry}
use Rattle.txn_set.specs.Set.{Set, txn_of}
use Rattle.item_model.specs.Work.{outcome_of}
use Rattle.step_journal.specs.State.{State, Row, row_of, same_job}
use Rattle.step_journal.specs.LockRule.{Above, needs_lock, refusal}
use Rattle.step_journal.specs.Running.{running, job_row}
use Rattle.step_journal.specs.Step.{given, lock_refusal, row_after, end_by, with_step, end_of}
use Rattle.step_journal.specs.Instant.{is_due}
use Rattle.rt_base.specs.declared.operation.End.{End}
use Rattle.board.specs.Over.{over_of}
use Rattle.board.proofs.Overs.{over_after}
use Rattle.plain_core.specs.Slots.{head_of}
use Rattle.plain_core.specs.Effects.{end_here}
use Rattle.plain_core.proofs.Effects.{end_here_is}
use Rattle.step_journal.specs.History.{state_of}
use Rattle.law_histories.proofs.Invariant.{same_job_is}
use Rattle.board.specs.declared.replies.StepReply.{StepReply}
use Rattle.board.specs.declared.replies.StepReply.TheVariants as reply
use Rattle.board.specs.Answers.{step_reply, running_reply, asked_reply, checked, lock_reply, ended_number, last_end}
use Rattle.board.proofs.Asks.{running_here}
use Rattle.plain_core.specs.declared.tally.Tally.{Tally}
use Rattle.plain_core.specs.TablesSeen.{TablesSeen, tables_of}
use Rattle.plain_core.specs.Seen.{PlainIs}
use Rattle.plain_core.specs.Stands.{Stands}
use Rattle.plain_core.specs.Grants.{granted_by}
use Rattle.plain_core.specs.Rules.{running_by}
use Rattle.plain_core.specs.Checks.{checked_by}
use Rattle.plain_core.specs.Steps.{locked_by, ask_by, turn_by, step_by}
use Rattle.plain_core.proofs.Runs.{running_is}
use Rattle.plain_core.proofs.Refusals.{block_on, refused_is}
use Rattle.plain_core.proofs.Tallies.{tally_says}

checked_is : (set : Set) (row : Row) (op : Op) (rest : StepReply) → checked_by set (txn_of set row.job.tx.0) row.used row.work op rest ≡ checked set row op rest
checked_is set row (Read item) rest = refl
checked_is set row other rest = refl

-- the granted step

end_is : (set : Set) (s : State) (x : Row) (op : Op)
    → over_of (end_here set.items set.together (txn_of set x.job.tx.0) x.work (x.used + 1) (s.now + 1) op) (x.release + (txn_of set x.job.tx.0).deadline == s.now + 1)
    ≡ over_of (end_by set (row_after s x op) (s.now + 1) op) (is_due set (s.now + 1) x)
end_is set s x op = ap (λ (o : Option End). over_of o (is_due set (s.now + 1) x)) (end_here_is set s x (s.now + 1) op)

abbrev granted_reply : Set → State → Row → Op → StepReply
granted_reply set s row op = reply.Done (outcome_of s.items row.work op) (end_of (with_step set s row op) row.job)

pub granted_is : (set : Set) (s : State) (x : Row) (op : Op) → over_of (end_by set (row_after s x op) (s.now + 1) op) (is_due set (s.now + 1) x) ≡ end_of (with_step set s x op) x.job
    → granted_by set (txn_of set x.job.tx.0) s.items s.now (head_of x) x.work op ≡ granted_reply set s x op
granted_is set s x op over = ap (reply.Done (outcome_of s.items x.work op)) (end_is set s x op ∙ over)

block_is : (set : Set) (s : State) (row : Row) (op : Op) (o : Option Above) → block_on o (granted_reply set s row op) ≡ lock_reply set s row op o
block_is set s row op None = refl
block_is set s row op (Some above) = refl

locked_at : (set : Set) (s : State) (row : Row) (op : Op) (b : Bool)
    → cond b (block_on (refusal set s.rows row) (granted_reply set s row op)) (granted_reply set s row op) ≡ lock_reply set s row op (option_and_then (λ r. refusal set s.rows r) (given b row))
locked_at set s row op true = block_is set s row op (refusal set s.rows row)
locked_at set s row op false = refl

locked_is : (set : Set) (s : State) (row : Row) (op : Op) → locked_by set.txns s.rows row op (granted_reply set s row op) ≡ lock_reply set s row op (lock_refusal set s row op)
locked_is set s row op =
    ap (λ (r : StepReply). cond (needs_lock row.work op) r (granted_reply set s row op)) (refused_is set s.rows row (granted_reply set s row op))
    ∙ locked_at set s row op (needs_lock row.work op)

ask_is : (set : Set) (s : State) (kept room : ℕ) (job : JobId) (row : Row) (op : Op) → granted_by set (txn_of set row.job.tx.0) s.items s.now (head_of row) row.work op ≡ granted_reply set s row op
    → ask_by set (txn_of set row.job.tx.0) (tables_of set s) kept room job op (Some row) ≡ asked_reply set s kept room op row
ask_is set s kept room job row op granted =
    checked_is set row op (cond (nat_le room kept) (reply.Full room) (locked_by set.txns s.rows row op (granted_by set (txn_of set row.job.tx.0) s.items s.now (head_of row) row.work op)))
    ∙ (ap (λ (r : StepReply). checked set row op (cond (nat_le room kept) (reply.Full room) (locked_by set.txns s.rows row op r))) granted
    ∙ ap (λ (r : StepReply). checked set row op (cond (nat_le room kept) (reply.Full room) r)) (locked_is set s row op))

module _ (set : Set) (s : State) (kept room : ℕ) (job : JobId) (op : Op) (here : (x : Row) → running set s.rows ≡ Some x → row_of s.rows x.job.tx.0 ≡ Some x)
    (granted : (x : Row) → running set s.rows ≡ Some x → granted_by set (txn_of set x.job.tx.0) s.items s.now (head_of x) x.work op ≡ granted_reply set s x op) where
  abbrev turn : Option JobId → StepReply
  turn o = turn_by set (tables_of set s) kept room job op o

  own_at : (x : Row) (b : Bool) → running set s.rows ≡ Some x → same_job x.job job ≡ b
      → cond b (ask_by set (txn_of set job.tx.0) (tables_of set s) kept room job op (row_of s.rows job.tx.0)) (reply.NotYet x.job) ≡ cond b (asked_reply set s kept room op x) (reply.NotYet x.job)
  own_at x false e t = refl
  own_at x true e t =
      let same : x.job ≡ job = same_job_is x.job job t in
      let row : row_of s.rows job.tx.0 ≡ Some x = subst (λ (k : JobId). row_of s.rows k.tx.0 ≡ Some x) same (here x e) in
      ap (λ (o : Option Row). ask_by set (txn_of set job.tx.0) (tables_of set s) kept room job op o) row
      ∙ subst (λ (k : JobId). ask_by set (txn_of set k.tx.0) (tables_of set s) kept room job op (Some x) ≡ asked_reply set s kept room op x) same (ask_is set s kept room job x op (granted x e))

  turn_at : (o : Option Row) → running set s.rows ≡ o → turn (option_map (λ r. r.job) o) ≡ running_reply set s kept room job op o
  turn_at None e = refl
  turn_at (Some x) e = own_at x (same_job x.job job) e refl

  pub turn_is : turn (running_by set.txns s.rows) ≡ running_reply set s kept room job op (running set s.rows)
  turn_is = ap turn (running_is set s.rows) ∙ turn_at (running set s.rows) refl

-- the answer of the core is that of its history
pub step_says : (core : PlainIs) (history : List Entry) (job : JobId) (op : Op) → Stands core history → job.tx.0 < length core.set.txns
    → step_by core job op ≡ step_reply core.set (state_of core.set history) (length core.journal.kept) core.journal.room job op
step_says core history job op h lt =
    let set = core.set in
    let s : State = state_of set history in
    let kept : ℕ = length core.journal.kept in
    let room : ℕ = core.journal.room in
    let tally = tally_says core history job.tx.0 h lt in
    let turns = turn_is set s kept room job op (running_here set history h.is_history.compiled h.is_history.legal) (λ x e. granted_is set s x op (over_after set history x op h.is_history.compiled h.is_history.legal e)) in
    ap (λ (t : Tally). cond (is_some (job_row core.tables.state.rows job)) (turn_by set core.tables kept room job op (running_by set.txns core.tables.state.rows)) (reply.NoJob t.number t.last)) tally
    ∙ (ap (λ (t : TablesSeen). cond (is_some (job_row t.state.rows job)) (turn_by set t kept room job op (running_by set.txns t.state.rows)) (reply.NoJob (ended_number s.ended job.tx.0) (last_end s.ended job.tx.0))) h.is_state
    ∙ ap (λ (r : StepReply). cond (is_some (job_row s.rows job)) r (reply.NoJob (ended_number s.ended job.tx.0) (last_end s.ended job.tx.0))) turns)
