-- A refused step: the job waits, and nothing else changes.
use Rattle.std.proofs.Common.{◌≡◌, ℕ, ◌<◌, Bool, true, false, cond, length, List, [], ◌∷◌, ◌++◌, Option, None, Some, refl, ap, sym, ◌∙◌, subst}
use Rattle.std.proofs.lemmas.Bool.Decides.{leb_tells}
use Rattle.std.proofs.Common.{inl, inr}
use Rattle.std.specs.Option.{option_and_then}
use Rattle.std.specs.Prelude.{slice_set}
use Rattle.rt_base.specs.declared.ids.JobId.{JobId}
use Rattle.rt_base.specs.declared.operation.Op.{Op}
use Rattle.step_journal.specs.declared.entry.Entry.{Entry}
use Rattle.step_journal.specs.declared.entry.Entry.TheVariants.{Blocked}
use Rattle.txn_set.specs.Set.{Set}
use Rattle.step_journal.specs.State.{State, Row, row_of, same_job}
use Rattle.step_journal.specs.LockRule.{Above}
use Rattle.step_journal.specs.Running.{running, of_job}
use Rattle.step_journal.specs.Step.{ask, step, given, asked, answered, may_ask, lock_refusal, with_wait}
use Rattle.step_journal.specs.History.{state_of, entry_given}
use Rattle.law_histories.proofs.Invariant.{IsPending, same_job_is}
use Rattle.board.specs.declared.replies.StepReply.TheVariants as reply
use Rattle.board.specs.Answers.{step_reply}
use Rattle.board.specs.Histories.{step_entry}
use Rattle.board.proofs.Asks.{running_here}
use Rattle.board.proofs.Rooms.{appends_are_steps, steps_full}
use Rattle.board.proofs.More.{history_more}
use Rattle.plain_core.specs.TablesSeen.{TablesSeen, tables_of, cut}
use Rattle.step_journal.specs.Journal.{JournalSeen}
use Rattle.plain_core.specs.Seen.{PlainIs}
use Rattle.plain_core.specs.Stands.{Stands, IsCore}
use Rattle.plain_core.specs.Waits.{waiting, waited}

-- the row that waits, and the step that it takes
pub record Waits (set : Set) (s : State) (job by : JobId) (op : Op) (ceiling : ℕ) : Type 0 where
  pub row : Row
  pub here : row_of s.rows job.tx.0 ≡ Some row
  pub named : row.job.tx.0 ≡ job.tx.0
  pub steps : step set s (ask job op) ≡ Some (Blocked job op by ceiling s.now, with_wait s row by)

module _ (set : Set) (s : State) (job by : JobId) (op : Op) (ceiling : ℕ) (own : (x : Row) → running set s.rows ≡ Some x → IsPending s.rows x) where
  answered_at : (x : Row) (o : Option Above) → x.job ≡ job → entry_given (Some (answered set s x op o)) ≡ Some (Blocked job op by ceiling s.now)
      → Some (answered set s x op o) ≡ Some (Blocked job op by ceiling s.now, with_wait s x by)
  answered_at x None same h = absurd cc
  answered_at x (Some above) same h =
      let e : Blocked x.job op above.holder above.ceiling s.now ≡ Blocked job op by ceiling s.now = cc in
      let holder : above.holder ≡ by = cc in
      ap (λ (k : Entry). Some (k, with_wait s x above.holder)) e ∙ ap (λ (j : JobId). Some (Blocked job op by ceiling s.now, with_wait s x j)) holder

  given_at : (x : Row) (b : Bool) → x.job ≡ job → entry_given (given b (answered set s x op (lock_refusal set s x op))) ≡ Some (Blocked job op by ceiling s.now)
      → given b (answered set s x op (lock_refusal set s x op)) ≡ Some (Blocked job op by ceiling s.now, with_wait s x by)
  given_at x true same h = answered_at x (lock_refusal set s x op) same h
  given_at x false same h = absurd cc

  turn_at : (x : Row) (b : Bool) → running set s.rows ≡ Some x → same_job x.job job ≡ b → entry_given (option_and_then (asked set s op) (cond b (Some x) None)) ≡ Some (Blocked job op by ceiling s.now)
      → (row : Row) × (row_of s.rows job.tx.0 ≡ Some row) × (row.job.tx.0 ≡ job.tx.0) × (option_and_then (asked set s op) (cond b (Some x) None) ≡ Some (Blocked job op by ceiling s.now, with_wait s row by))
  turn_at x false e t h = absurd cc
  turn_at x true e t h =
      let same : x.job ≡ job = same_job_is x.job job t in
      (x, subst (λ (k : JobId). row_of s.rows k.tx.0 ≡ Some x) same (own x e), ap (λ (k : JobId). k.tx.0) same, given_at x (may_ask set x op) same h)

  runs_at : (o : Option Row) → running set s.rows ≡ o → entry_given (option_and_then (asked set s op) (option_and_then (of_job job) o)) ≡ Some (Blocked job op by ceiling s.now)
      → (row : Row) × (row_of s.rows job.tx.0 ≡ Some row) × (row.job.tx.0 ≡ job.tx.0) × (option_and_then (asked set s op) (option_and_then (of_job job) o) ≡ Some (Blocked job op by ceiling s.now, with_wait s row by))
  runs_at None e h = absurd cc
  runs_at (Some x) e h = turn_at x (same_job x.job job) e refl h

  pub waits : entry_given (step set s (ask job op)) ≡ Some (Blocked job op by ceiling s.now) → Waits set s job by op ceiling
  unfolding step
  waits h = let r = runs_at (running set s.rows) refl h in record { row = r.0; here = r.1; named = r.2; steps = r.3 }

-- on the tables

abbrev pub blocked : PlainIs → JobId → Op → JobId → ℕ → PlainIs
blocked core job op by ceiling = record core {
  journal = record core.journal { kept = core.journal.kept ++ Blocked job op by ceiling core.tables.state.now ∷ [] };
  tables = waited core.tables job by;
}

wait_tables : (set : Set) (s : State) (row : Row) (job by : JobId) → row_of s.rows job.tx.0 ≡ Some row → row.job.tx.0 ≡ job.tx.0 → tables_of set (with_wait s row by) ≡ waited (tables_of set s) job by
unfolding with_wait
wait_tables set s row job by here same =
    ap (λ (n : ℕ). record (tables_of set s) { state = record (cut s) { rows = slice_set s.rows n (Some (record row { waits_on = Some by })) } }) same
    ∙ ap (λ (o : Option Row). record (tables_of set s) { state = record (cut s) { rows = slice_set s.rows job.tx.0 (waiting by o) } }) (sym here)

not_none : (e : Entry) (x : Option Entry) → x ≡ None → x ≡ Some e → ⊥
not_none e x a b = cc

pub block_stands : (core : PlainIs) (history : List Entry) (job by : JobId) (op : Op) (ceiling : ℕ) → job.tx.0 < length core.set.txns
    → step_reply core.set (state_of core.set history) (length core.journal.kept) core.journal.room job op ≡ reply.Blocked by ceiling → Stands core history
    → Stands (blocked core job op by ceiling) (history ++ Blocked job op by ceiling (state_of core.set history).now ∷ [])
block_stands core history job by op ceiling lt said h =
    let set = core.set in
    let s : State = state_of set history in
    let kept : ℕ = length core.journal.kept in
    let entry : step_entry s.now job op (step_reply set s kept core.journal.room job op) ≡ Some (Blocked job op by ceiling s.now) = ap (step_entry s.now job op) said in
    let legal = (appends_are_steps set history kept core.journal.room job.tx 0 job op (Blocked job op by ceiling s.now) h.is_history.compiled h.is_history.legal lt).1 entry in
    let w = waits set s job by op ceiling (running_here set history h.is_history.compiled h.is_history.legal) legal in
    let roomy : kept < core.journal.room = elim (leb_tells core.journal.room kept) [ inl t ↦ absurd (not_none _ _ (steps_full set s kept core.journal.room job op t.0) entry) | inr f ↦ f.1 ] in
    let more = history_more set core.journal.room core.journal.first core.journal.kept history (Blocked job op by ceiling s.now) (with_wait s w.row by) h.is_history w.steps roomy in
    let now_is : core.tables.state.now ≡ s.now = ap (λ (t : TablesSeen). t.state.now) h.is_state in
    let is : Stands (record core { journal = record core.journal { kept = core.journal.kept ++ Blocked job op by ceiling s.now ∷ [] }; tables = waited core.tables job by }) (history ++ Blocked job op by ceiling s.now ∷ []) = record {
      is_history = more.is_history;
      is_state = ap (λ (t : TablesSeen). waited t job by) h.is_state ∙ (sym (wait_tables set s w.row job by w.here w.named) ∙ ap (tables_of set) more.state);
    } in
    subst (λ (n : ℕ). Stands (record core { journal = record core.journal { kept = core.journal.kept ++ Blocked job op by ceiling n ∷ [] }; tables = waited core.tables job by }) (history ++ Blocked job op by ceiling s.now ∷ [])) (sym now_is) is

-- as the code has it

pub block_after : (core now : PlainIs) (journal : JournalSeen) (tables : TablesSeen) (job by : JobId) (op : Op) (ceiling : ℕ) → core ≡ now
    → journal ≡ (blocked core job op by ceiling).journal → tables ≡ (blocked core job op by ceiling).tables → job.tx.0 < length core.set.txns
    → ((history : List Entry) → Stands now history → step_reply now.set (state_of now.set history) (length now.journal.kept) now.journal.room job op ≡ reply.Blocked by ceiling)
    → (history : List Entry) → Stands now history → Stands (record { set = core.set; journal = journal; tables = tables }) (history ++ Blocked job op by ceiling (state_of now.set history).now ∷ [])
block_after core now journal tables job by op ceiling same ej et lt said history h =
    let told : step_reply core.set (state_of core.set history) (length core.journal.kept) core.journal.room job op ≡ reply.Blocked by ceiling =
    ap (λ (p : PlainIs). step_reply p.set (state_of p.set history) (length p.journal.kept) p.journal.room job op) same ∙ said history h in
    subst (λ (p : PlainIs). Stands (record { set = core.set; journal = journal; tables = tables }) (history ++ Blocked job op by ceiling (state_of p.set history).now ∷ [])) same
    (subst (λ (t : TablesSeen). Stands (record { set = core.set; journal = journal; tables = t }) (history ++ Blocked job op by ceiling (state_of core.set history).now ∷ [])) (sym et)
    (subst (λ (j : JournalSeen). Stands (record { set = core.set; journal = j; tables = (blocked core job op by ceiling).tables }) (history ++ Blocked job op by ceiling (state_of core.set history).now ∷ [])) (sym ej)
    (block_stands core history job by op ceiling lt told (subst (λ (p : PlainIs). Stands p history) (sym same) h))))

pub block_keeps : (core now : PlainIs) (journal : JournalSeen) (tables : TablesSeen) (job by : JobId) (op : Op) (ceiling : ℕ) → core ≡ now
    → journal ≡ (blocked core job op by ceiling).journal → tables ≡ (blocked core job op by ceiling).tables → job.tx.0 < length core.set.txns
    → ((history : List Entry) → Stands now history → step_reply now.set (state_of now.set history) (length now.journal.kept) now.journal.room job op ≡ reply.Blocked by ceiling)
    → IsCore core → IsCore (record { set = core.set; journal = journal; tables = tables })
block_keeps core now journal tables job by op ceiling same ej et lt said is = record {
  history = is.history ++ Blocked job op by ceiling (state_of now.set is.history).now ∷ [];
  stands = block_after core now journal tables job by op ceiling same ej et lt said is.history (subst (λ (p : PlainIs). Stands p is.history) same is.stands);
}
