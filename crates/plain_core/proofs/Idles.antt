-- With nothing pending the time goes on to the least planned tick.
use Rattle.std.proofs.Common.{◌≡◌, ℕ, ◌+◌, ◌^◌, ◌<◌, ◌≤◌, ◌⊎◌, inl, inr, Bool, true, false, cond, List, [], ◌∷◌, ◌++◌, length, Option, None, Some, refl, ap, sym, ◌∙◌, subst, arith}
use Rattle.std.specs.Option.{option_map}
use Rattle.std.proofs.lemmas.Bool.{cases_lt}
use Rattle.step_journal.specs.declared.entry.Entry.{Entry}
use Rattle.step_journal.specs.declared.entry.Entry.TheVariants.{Idle}
use Rattle.txn_set.specs.Set.{Set}
use Rattle.step_journal.specs.State.{State, Row, pending}
use Rattle.step_journal.specs.Running.{running}
use Rattle.step_journal.specs.Instant.{arrived}
use Rattle.step_journal.specs.Step.{idle, step, idled, next_tick}
use Rattle.step_journal.specs.History.{state_of}
use Rattle.law_histories.proofs.Never.{never_stuck}
use Rattle.board.specs.declared.replies.IdleReply.TheVariants as answer
use Rattle.board.specs.Answers.{idle_reply, idle_reply_at, waiting_reply}
use Rattle.plain_core.specs.Rules.{idle_by, idle_of}
use Rattle.plain_core.proofs.Runs.{running_is}
use Rattle.std.specs.Prelude.{nat_le}
use Rattle.law_histories.proofs.CountingAll.{entries_few}
use Rattle.board.proofs.Ended.{ended_few}
use Rattle.board.proofs.More.{history_more, not_le}
use Rattle.plain_core.specs.declared.tally.Tally.{Tally}
use Rattle.plain_core.specs.TablesSeen.{TablesSeen, tables_of, tally_of}
use Rattle.step_journal.specs.Journal.{JournalSeen}
use Rattle.plain_core.specs.Seen.{PlainIs}
use Rattle.plain_core.specs.Stands.{Stands, IsCore}
use Rattle.plain_core.specs.Arrivals.{arrived_tables}
use Rattle.plain_core.proofs.Arrives.{arrive_is}
use Rattle.plain_core.proofs.Tallies.{tally_says, tally_beyond}
use Rattle.plain_core.proofs.Stood.{fit}

pub history_fits : (core : PlainIs) → IsCore core → core.journal.first + length core.journal.kept < 2 ^ 64
history_fits core is = omega (arith, is.stands.is_history.counted, (entries_few core.set is.history is.stands.is_history.compiled is.stands.is_history.legal).all)

pub tallies_fit : (core : PlainIs) → IsCore core → (n : ℕ) → (tally_of core.tables.tallies n).number < 2 ^ 32
tallies_fit core is n = at (n_in n (length core.set.txns)) where
  at : (n < length core.set.txns) ⊎ (length core.set.txns ≤ n) → (tally_of core.tables.tallies n).number < 2 ^ 32
  at (inl lt) = omega (arith, ap (λ (t : Tally). t.number) (tally_says core is.history n is.stands lt), ended_few core.set is.history n is.stands.is_history.compiled is.stands.is_history.legal)
  at (inr ge) = omega (arith, ap (λ (t : Tally). t.number) (tally_beyond core.tables.tallies n (omega (arith, (fit core is.history is.stands).tallies))))

  n_in : (a b : ℕ) → (a < b) ⊎ (b ≤ a)
  n_in a b = cases_lt a b

abbrev pub gone_on : PlainIs → ℕ → PlainIs
gone_on core to = record core {
  journal = record core.journal { kept = core.journal.kept ++ Idle core.tables.state.now to ∷ [] };
  tables = arrived_tables core.set.txns to core.tables;
}

idle_steps : (set : Set) (s : State) (to : ℕ) → pending s.rows ≡ [] → next_tick s.planned ≡ Some to → step set s idle ≡ Some (Idle s.now to, arrived set to s)
unfolding step
idle_steps set s to none next =
    ap (λ (rows : List Row). idled set s rows) none
    ∙ ap (λ (o : Option ℕ). option_map (λ t. (Idle s.now t, arrived set t s)) o) next

pub idle_stands : (core : PlainIs) (history : List Entry) (to : ℕ) → running core.set core.tables.state.rows ≡ None → next_tick core.tables.state.planned ≡ Some to → length core.journal.kept < core.journal.room
    → Stands core history → Stands (gone_on core to) (history ++ Idle (state_of core.set history).now to ∷ [])
idle_stands core history to none next lt h =
    let set = core.set in
    let s : State = state_of set history in
    let none_s : running set s.rows ≡ None = ap (λ (t : TablesSeen). running set t.state.rows) (sym h.is_state) ∙ none in
    let next_s : next_tick s.planned ≡ Some to = ap (λ (t : TablesSeen). next_tick t.state.planned) (sym h.is_state) ∙ next in
    let more = history_more set core.journal.room core.journal.first core.journal.kept history (Idle s.now to) (arrived set to s) h.is_history
    (idle_steps set s to ((never_stuck set history h.is_history.compiled h.is_history.legal).runs none_s) next_s) lt in
    let now_is : core.tables.state.now ≡ s.now = ap (λ (t : TablesSeen). t.state.now) h.is_state in
    let is : Stands (record core { journal = record core.journal { kept = core.journal.kept ++ Idle s.now to ∷ [] }; tables = arrived_tables set.txns to core.tables }) (history ++ Idle s.now to ∷ []) = record {
      is_history = more.is_history;
      is_state = ap (arrived_tables set.txns to) h.is_state ∙ (sym (arrive_is set to s) ∙ ap (tables_of set) more.state);
    } in
    subst (λ (n : ℕ). Stands (record core { journal = record core.journal { kept = core.journal.kept ++ Idle n to ∷ [] }; tables = arrived_tables set.txns to core.tables }) (history ++ Idle s.now to ∷ [])) (sym now_is) is

-- as the code has it: the parts change one after the other
pub went_on : (core now : PlainIs) (journal : JournalSeen) (tables : TablesSeen) (to : ℕ) → core ≡ now → journal ≡ (gone_on core to).journal → tables ≡ (gone_on core to).tables
    → running core.set core.tables.state.rows ≡ None → next_tick core.tables.state.planned ≡ Some to → length core.journal.kept < core.journal.room
    → (history : List Entry) → Stands now history → Stands (record { set = core.set; journal = journal; tables = tables }) (history ++ Idle (state_of now.set history).now to ∷ [])
went_on core now journal tables to same ej et none next lt history h =
    subst (λ (p : PlainIs). Stands (record { set = core.set; journal = journal; tables = tables }) (history ++ Idle (state_of p.set history).now to ∷ [])) same
    (subst (λ (t : TablesSeen). Stands (record { set = core.set; journal = journal; tables = t }) (history ++ Idle (state_of core.set history).now to ∷ [])) (sym et)
    (subst (λ (j : JournalSeen). Stands (record { set = core.set; journal = j; tables = (gone_on core to).tables }) (history ++ Idle (state_of core.set history).now to ∷ [])) (sym ej)
    (idle_stands core history to none next lt (subst (λ (p : PlainIs). Stands p history) (sym same) h))))

pub still_core : (core now : PlainIs) (journal : JournalSeen) (tables : TablesSeen) (to : ℕ) → core ≡ now → journal ≡ (gone_on core to).journal → tables ≡ (gone_on core to).tables
    → running core.set core.tables.state.rows ≡ None → next_tick core.tables.state.planned ≡ Some to → length core.journal.kept < core.journal.room
    → IsCore core → IsCore (record { set = core.set; journal = journal; tables = tables })
still_core core now journal tables to same ej et none next lt is = record {
  history = is.history ++ Idle (state_of core.set is.history).now to ∷ [];
  stands = went_on core core journal tables to refl ej et none next lt is.history is.stands;
}

-- what an answer Advanced tells

by_is : (kept room : ℕ) (next : Option ℕ) (s : State) (o : Option Row) → next ≡ next_tick s.planned → idle_by kept room next (option_map (λ r. r.job) o) ≡ idle_reply_at s kept room o
by_is kept room next s (Some row) e = refl
by_is kept room next s None e = ap (waiting_reply kept room) e

pub idle_says : (core : PlainIs) (history : List Entry) → Stands core history → idle_of core ≡ idle_reply core.set (state_of core.set history) (length core.journal.kept) core.journal.room
idle_says core history h =
    ap (idle_by (length core.journal.kept) core.journal.room (next_tick core.tables.state.planned)) (running_is core.set core.tables.state.rows)
    ∙ (by_is (length core.journal.kept) core.journal.room (next_tick core.tables.state.planned) core.tables.state (running core.set core.tables.state.rows) refl
    ∙ ap (λ (t : TablesSeen). idle_reply core.set t.state (length core.journal.kept) core.journal.room) h.is_state)

pub record Advances (core : PlainIs) (to : ℕ) : Type 0 where
  pub none : running core.set core.tables.state.rows ≡ None
  pub next : next_tick core.tables.state.planned ≡ Some to
  pub roomy : length core.journal.kept < core.journal.room

wait_at : (kept room to : ℕ) (o : Option ℕ) → waiting_reply kept room o ≡ answer.Advanced to → (o ≡ Some to) × (kept < room)
wait_at kept room to None h = absurd cc
wait_at kept room to (Some t) h = full_at t (nat_le room kept) refl h where
  full_at : (t : ℕ) (b : Bool) → nat_le room kept ≡ b → cond b (answer.Full room) (answer.Advanced t) ≡ answer.Advanced to → (Some t ≡ Some to) × (kept < room)
  full_at t true e k = absurd cc
  full_at t false e k = (ap Some (cc), not_le room kept e)

advances_at : (core : PlainIs) (to : ℕ) (o : Option Row) → running core.set core.tables.state.rows ≡ o
    → idle_by (length core.journal.kept) core.journal.room (next_tick core.tables.state.planned) (option_map (λ r. r.job) o) ≡ answer.Advanced to → Advances core to
advances_at core to (Some row) e h = absurd cc
advances_at core to None e h = let w = wait_at (length core.journal.kept) core.journal.room to (next_tick core.tables.state.planned) h in record { none = e; next = w.0; roomy = w.1 }

pub advances : (core now : PlainIs) (to : ℕ) → core ≡ now → idle_of now ≡ answer.Advanced to → Advances core to
advances core now to same h =
    advances_at core to (running core.set core.tables.state.rows) refl
    (sym (ap (idle_by (length core.journal.kept) core.journal.room (next_tick core.tables.state.planned)) (running_is core.set core.tables.state.rows)) ∙ (ap idle_of same ∙ h))
