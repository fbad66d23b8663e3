-- A granted step: its effect, and the arrival.
use Rattle.std.proofs.Common.{◌≡◌, ℕ, zero, suc, ◌+◌, ◌<◌, ◌≤◌, ◌==◌, Bool, true, false, cond, ◌||◌, length, List, [], ◌∷◌, ◌++◌, Option, None, Some, get_or, set as with_item, refl, ap, sym, ◌∙◌, subst, inl, inr, arith}
use Rattle.std.proofs.lemmas.Bool.{and_parts, eqb-true}
use Rattle.std.proofs.lemmas.Bool.Decides.{leb_tells}
use Rattle.std.proofs.lemmas.List.{length-set, length-map}
use Rattle.std.specs.Option.{option_map, option_and_then}
use Rattle.std.specs.List.{list_any}
use Rattle.rt_base.specs.declared.ids.ItemId.{ItemId}
use Rattle.rt_base.specs.declared.ids.JobId.{JobId}
use Rattle.rt_base.specs.declared.operation.Op.{Op}
use Rattle.rt_base.specs.declared.operation.Op.TheVariants.{Read, Write}
use Rattle.rt_base.specs.declared.operation.End.{End}
use Rattle.rt_base.specs.declared.operation.Outcome.{Outcome}
use Rattle.txn_set.specs.Set.{Set, IsCompiled, txn_of, no_txn, names_item}
use Rattle.item_model.specs.Work.{outcome_of}
use Rattle.step_journal.specs.declared.entry.Entry.{Entry}
use Rattle.step_journal.specs.declared.entry.Entry.TheVariants.{Step}
use Rattle.step_journal.specs.State.{State, Row, row_of, same_job}
use Rattle.step_journal.specs.LockRule.{Above}
use Rattle.step_journal.specs.Running.{running, of_job}
use Rattle.step_journal.specs.Instant.{freed}
use Rattle.step_journal.specs.Step.{ask, step, given, asked, answered, may_ask, lock_refusal, after_effect, with_step, end_of}
use Rattle.step_journal.specs.History.{state_of, entry_given}
use Rattle.step_journal.specs.Journal.{JournalSeen}
use Rattle.law_histories.proofs.Invariant.{IsPending, same_job_is}
use Rattle.board.specs.declared.replies.StepReply.TheVariants as reply
use Rattle.board.specs.Answers.{step_reply}
use Rattle.board.specs.Histories.{step_entry}
use Rattle.board.proofs.Asks.{running_here}
use Rattle.board.proofs.Rooms.{appends_are_steps, steps_full}
use Rattle.board.proofs.More.{history_more}
use Rattle.plain_core.specs.TablesSeen.{TablesSeen, tables_of, tally_of, counted}
use Rattle.plain_core.specs.declared.tally.Tally.{Tally}
use Rattle.plain_core.specs.Arrivals.{arrived_tables}
use Rattle.plain_core.specs.Effects.{IsLow, stepped_tables, settled_by}
use Rattle.plain_core.proofs.Arrives.{arrive_is}
use Rattle.plain_core.proofs.Effects.{effect_is}
use Rattle.plain_core.specs.Seen.{PlainIs}
use Rattle.plain_core.specs.Grants.{slot_end_by, effect_by}
use Rattle.plain_core.specs.Stands.{Stands, IsCore}

-- the row that goes on, and the step that it takes
pub record Goes (set : Set) (s : State) (job : JobId) (op : Op) (outcome : Outcome) (over : Option End) : Type 0 where
  pub row : Row
  pub here : row_of s.rows row.job.tx.0 ≡ Some row
  pub is : row.job ≡ job
  pub may : may_ask set row op ≡ true
  pub steps : step set s (ask job op) ≡ Some (Step job op outcome over s.now, with_step set s row op)

module _ (set : Set) (s : State) (job : JobId) (op : Op) (outcome : Outcome) (over : Option End) (own : (x : Row) → running set s.rows ≡ Some x → IsPending s.rows x) where
  abbrev entry : Entry
  entry = Step job op outcome over s.now

  answered_at : (x : Row) (o : Option Above) → x.job ≡ job → entry_given (Some (answered set s x op o)) ≡ Some entry
      → Some (answered set s x op o) ≡ Some (entry, with_step set s x op)
  answered_at x None same h =
      let e : Step x.job op (outcome_of s.items x.work op) (end_of (with_step set s x op) x.job) s.now ≡ entry = cc in
      ap (λ (k : Entry). Some (k, with_step set s x op)) e
  answered_at x (Some above) same h = absurd cc

  given_at : (x : Row) (b : Bool) → may_ask set x op ≡ b → x.job ≡ job → entry_given (given b (answered set s x op (lock_refusal set s x op))) ≡ Some entry
      → (may_ask set x op ≡ true) × (given b (answered set s x op (lock_refusal set s x op)) ≡ Some (entry, with_step set s x op))
  given_at x true m same h = (m, answered_at x (lock_refusal set s x op) same h)
  given_at x false m same h = absurd cc

  turn_at : (x : Row) (b : Bool) → running set s.rows ≡ Some x → same_job x.job job ≡ b → entry_given (option_and_then (asked set s op) (cond b (Some x) None)) ≡ Some entry
      → (row : Row) × (row_of s.rows row.job.tx.0 ≡ Some row) × (row.job ≡ job) × (may_ask set row op ≡ true) × (option_and_then (asked set s op) (cond b (Some x) None) ≡ Some (entry, with_step set s row op))
  turn_at x false e t h = absurd cc
  turn_at x true e t h =
      let same : x.job ≡ job = same_job_is x.job job t in
      let g = given_at x (may_ask set x op) refl same h in
      (x, own x e, same, g.0, g.1)

  runs_at : (o : Option Row) → running set s.rows ≡ o → entry_given (option_and_then (asked set s op) (option_and_then (of_job job) o)) ≡ Some entry
      → (row : Row) × (row_of s.rows row.job.tx.0 ≡ Some row) × (row.job ≡ job) × (may_ask set row op ≡ true) × (option_and_then (asked set s op) (option_and_then (of_job job) o) ≡ Some (entry, with_step set s row op))
  runs_at None e h = absurd cc
  runs_at (Some x) e h = turn_at x (same_job x.job job) e refl h

  pub goes : entry_given (step set s (ask job op)) ≡ Some (Step job op outcome over s.now) → Goes set s job op outcome over
  unfolding step
  goes h = let r = runs_at (running set s.rows) refl h in record { row = r.0; here = r.1; is = r.2; may = r.3; steps = r.4 }

not_none : (e : Entry) (x : Option Entry) → x ≡ None → x ≡ Some e → ⊥
not_none e x a b = cc

pub record Told (core : PlainIs) (history : List Entry) (job : JobId) (op : Op) (outcome : Outcome) (over : Option End) : Type 0 where
  pub goes : Goes core.set (state_of core.set history) job op outcome over
  pub roomy : length core.journal.kept < core.journal.room

-- what the answer Done tells
pub told : (core : PlainIs) (history : List Entry) (job : JobId) (op : Op) (outcome : Outcome) (over : Option End) → job.tx.0 < length core.set.txns
    → step_reply core.set (state_of core.set history) (length core.journal.kept) core.journal.room job op ≡ reply.Done outcome over → Stands core history → Told core history job op outcome over
told core history job op outcome over lt said h =
    let set = core.set in
    let s : State = state_of set history in
    let kept : ℕ = length core.journal.kept in
    let entry : step_entry s.now job op (step_reply set s kept core.journal.room job op) ≡ Some (Step job op outcome over s.now) = ap (step_entry s.now job op) said in
    let legal = (appends_are_steps set history kept core.journal.room job.tx 0 job op (Step job op outcome over s.now) h.is_history.compiled h.is_history.legal lt).1 entry in
    record {
      goes = goes set s job op outcome over (running_here set history h.is_history.compiled h.is_history.legal) legal;
      roomy = elim (leb_tells core.journal.room kept) [ inl t ↦ absurd (not_none _ _ (steps_full set s kept core.journal.room job op t.0) entry) | inr f ↦ f.1 ];
    }

-- the item of an operation that is allowed is an item of the set

any_low_at : (i : ItemId) (items : List ItemId) (n m : ℕ) (b : Bool) → (i.0 == n) ≡ b → i.0 < m → (list_any (λ i. i.0 == n) items ≡ true → n < m) → (b || list_any (λ i. i.0 == n) items) ≡ true → n < m
any_low_at i items n m true e lt rest h = omega (arith, eqb-true _ _ e, lt)
any_low_at i items n m false e lt rest h = rest h

any_low : (items : List ItemId) (n m : ℕ) → ((k : ℕ) (d : ItemId) → k < length items → (get_or items k d).0 < m) → list_any (λ i. i.0 == n) items ≡ true → n < m
any_low [] n m all h = absurd cc
any_low (i ∷ items) n m all h = any_low_at i items n m (i.0 == n) refl (all 0 i (omega arith)) (any_low items n m (λ k d lt. all (suc k) d (omega (arith, lt)))) h

low_of : (set : Set) (row : Row) (op : Op) → IsCompiled set → row.job.tx.0 < length set.txns → may_ask set row op ≡ true → IsLow op
low_of set row (Read item) ok lt h =
    let p = and_parts (names_item (txn_of set row.job.tx.0).reads item.0) _ h in
    omega (arith, any_low (txn_of set row.job.tx.0).reads item.0 (length set.items) (λ k d l. (ok.reads row.job.tx.0 no_txn lt).in_range k d l) p.0, ok.few_items)
low_of set row (Write item value) ok lt h =
    let p = and_parts (names_item (txn_of set row.job.tx.0).writes item.0) _ h in
    omega (arith, any_low (txn_of set row.job.tx.0).writes item.0 (length set.items) (λ k d l. (ok.writes row.job.tx.0 no_txn lt).in_range k d l) p.0, ok.few_items)
low_of set row other ok lt h = tt

pub go_low : (core now : PlainIs) (job : JobId) (op : Op) (outcome : Outcome) (over : Option End) → core ≡ now → job.tx.0 < length now.set.txns
    → ((history : List Entry) → Stands now history → step_reply now.set (state_of now.set history) (length now.journal.kept) now.journal.room job op ≡ reply.Done outcome over) → IsCore core → IsLow op
go_low core now job op outcome over same lt said is =
    let stands : Stands now is.history = subst (λ (p : PlainIs). Stands p is.history) same is.stands in
    let t = told now is.history job op outcome over lt (said is.history stands) stands in
    low_of now.set t.goes.row op stands.is_history.compiled (omega (arith, ap (λ (k : JobId). k.tx.0) t.goes.is, lt)) t.goes.may

pub go_roomy : (core now : PlainIs) (job : JobId) (op : Op) (outcome : Outcome) (over : Option End) → core ≡ now → job.tx.0 < length now.set.txns
    → ((history : List Entry) → Stands now history → step_reply now.set (state_of now.set history) (length now.journal.kept) now.journal.room job op ≡ reply.Done outcome over) → IsCore core
    → length core.journal.kept < core.journal.room
go_roomy core now job op outcome over same lt said is =
    let stands : Stands now is.history = subst (λ (p : PlainIs). Stands p is.history) same is.stands in
    let t = told now is.history job op outcome over lt (said is.history stands) stands in
    omega (arith, t.roomy, ap (λ (p : PlainIs). length p.journal.kept) same, ap (λ (p : PlainIs). p.journal.room) same)

-- sizes after the effect

settled_rows : (set : Set) (job : JobId) (o : Option End) (t : TablesSeen) → length (settled_by set.items t job o).state.rows ≡ length t.state.rows
settled_rows set job None t = refl
settled_rows set job (Some e) t = length-map (with_item t.state.rows job.tx.0 None) (option_map (freed job)) ∙ length-set t.state.rows job.tx.0 None

pub effect_rows : (set : Set) (job : JobId) (op : Op) (t : TablesSeen) → length (effect_by set job op t).state.rows ≡ length t.state.rows
effect_rows set job op t =
    settled_rows set job (slot_end_by set t.state.now job op (row_of t.state.rows job.tx.0)) (stepped_tables t job op) ∙ length-set t.state.rows job.tx.0 _

tally_set : (tallies : List Tally) (m n : ℕ) (e : End) → (tally_of (with_item tallies m (counted (tally_of tallies m) e)) n).number ≤ (tally_of tallies n).number + 1
tally_set [] m n e = omega arith
tally_set (t ∷ ts) zero zero e = omega arith
tally_set (t ∷ ts) zero (suc n) e = omega arith
tally_set (t ∷ ts) (suc m) zero e = omega arith
tally_set (t ∷ ts) (suc m) (suc n) e = tally_set ts m n e

settled_tallies : (set : Set) (job : JobId) (o : Option End) (t : TablesSeen) (n : ℕ) → (tally_of (settled_by set.items t job o).tallies n).number ≤ (tally_of t.tallies n).number + 1
settled_tallies set job None t n = omega arith
settled_tallies set job (Some e) t n = tally_set t.tallies job.tx.0 n e

pub effect_tallies : (set : Set) (job : JobId) (op : Op) (t : TablesSeen) (n : ℕ) → (tally_of (effect_by set job op t).tallies n).number ≤ (tally_of t.tallies n).number + 1
effect_tallies set job op t n = settled_tallies set job (slot_end_by set t.state.now job op (row_of t.state.rows job.tx.0)) (stepped_tables t job op) n

-- on the tables

effect_here : (set : Set) (s : State) (row : Row) (op : Op) → row_of s.rows row.job.tx.0 ≡ Some row → effect_by set row.job op (tables_of set s) ≡ tables_of set (after_effect set s row op)
effect_here set s row op here =
    ap (λ (o : Option Row). settled_by set.items (stepped_tables (tables_of set s) row.job op) row.job (slot_end_by set s.now row.job op o)) here
    ∙ effect_is set s row op here

step_tables : (set : Set) (s : State) (row : Row) (job : JobId) (op : Op) → row_of s.rows row.job.tx.0 ≡ Some row → row.job ≡ job
    → arrived_tables set.txns (s.now + 1) (effect_by set job op (tables_of set s)) ≡ tables_of set (with_step set s row op)
unfolding with_step
step_tables set s row job op here is =
    ap (λ (k : JobId). arrived_tables set.txns (s.now + 1) (effect_by set k op (tables_of set s))) (sym is)
    ∙ (ap (arrived_tables set.txns (s.now + 1)) (effect_here set s row op here)
    ∙ sym (arrive_is set (s.now + 1) (after_effect set s row op)))

abbrev pub gone : PlainIs → JobId → Op → Outcome → Option End → PlainIs
gone core job op outcome over = record core {
  journal = record core.journal { kept = core.journal.kept ++ Step job op outcome over core.tables.state.now ∷ [] };
  tables = arrived_tables core.set.txns (core.tables.state.now + 1) (effect_by core.set job op core.tables);
}

pub go_stands : (core : PlainIs) (history : List Entry) (job : JobId) (op : Op) (outcome : Outcome) (over : Option End) → job.tx.0 < length core.set.txns
    → step_reply core.set (state_of core.set history) (length core.journal.kept) core.journal.room job op ≡ reply.Done outcome over → Stands core history
    → Stands (gone core job op outcome over) (history ++ Step job op outcome over (state_of core.set history).now ∷ [])
go_stands core history job op outcome over lt said h =
    let set = core.set in
    let s : State = state_of set history in
    let t = told core history job op outcome over lt said h in
    let more = history_more set core.journal.room core.journal.first core.journal.kept history (Step job op outcome over s.now) (with_step set s t.goes.row op) h.is_history t.goes.steps t.roomy in
    let now_is : core.tables.state.now ≡ s.now = ap (λ (t : TablesSeen). t.state.now) h.is_state in
    let is : Stands (record core { journal = record core.journal { kept = core.journal.kept ++ Step job op outcome over s.now ∷ [] }; tables = arrived_tables set.txns (core.tables.state.now + 1) (effect_by set job op core.tables) }) (history ++ Step job op outcome over s.now ∷ []) = record {
      is_history = more.is_history;
      is_state = ap (λ (t : TablesSeen). arrived_tables set.txns (t.state.now + 1) (effect_by set job op t)) h.is_state
          ∙ (step_tables set s t.goes.row job op t.goes.here t.goes.is ∙ ap (tables_of set) more.state);
    } in
    subst (λ (n : ℕ). Stands (record core { journal = record core.journal { kept = core.journal.kept ++ Step job op outcome over n ∷ [] }; tables = arrived_tables set.txns (core.tables.state.now + 1) (effect_by set job op core.tables) }) (history ++ Step job op outcome over s.now ∷ [])) (sym now_is) is

-- as the code has it

pub go_after : (core now : PlainIs) (journal : JournalSeen) (tables : TablesSeen) (job : JobId) (op : Op) (outcome : Outcome) (over : Option End) → core ≡ now
    → journal ≡ (gone core job op outcome over).journal → tables ≡ (gone core job op outcome over).tables → job.tx.0 < length core.set.txns
    → ((history : List Entry) → Stands now history → step_reply now.set (state_of now.set history) (length now.journal.kept) now.journal.room job op ≡ reply.Done outcome over)
    → (history : List Entry) → Stands now history → Stands (record { set = core.set; journal = journal; tables = tables }) (history ++ Step job op outcome over (state_of now.set history).now ∷ [])
go_after core now journal tables job op outcome over same ej et lt said history h =
    let told : step_reply core.set (state_of core.set history) (length core.journal.kept) core.journal.room job op ≡ reply.Done outcome over =
    ap (λ (p : PlainIs). step_reply p.set (state_of p.set history) (length p.journal.kept) p.journal.room job op) same ∙ said history h in
    subst (λ (p : PlainIs). Stands (record { set = core.set; journal = journal; tables = tables }) (history ++ Step job op outcome over (state_of p.set history).now ∷ [])) same
    (subst (λ (t : TablesSeen). Stands (record { set = core.set; journal = journal; tables = t }) (history ++ Step job op outcome over (state_of core.set history).now ∷ [])) (sym et)
    (subst (λ (j : JournalSeen). Stands (record { set = core.set; journal = j; tables = (gone core job op outcome over).tables }) (history ++ Step job op outcome over (state_of core.set history).now ∷ [])) (sym ej)
    (go_stands core history job op outcome over lt told (subst (λ (p : PlainIs). Stands p history) (sym same) h))))

pub go_keeps : (core now : PlainIs) (journal : JournalSeen) (tables : TablesSeen) (job : JobId) (op : Op) (outcome : Outcome) (over : Option End) → core ≡ now
    → journal ≡ (gone core job op outcome over).journal → tables ≡ (gone core job op outcome over).tables → job.tx.0 < length core.set.txns
    → ((history : List Entry) → Stands now history → step_reply now.set (state_of now.set history) (length now.journal.kept) now.journal.room job op ≡ reply.Done outcome over)
    → IsCore core → IsCore (record { set = core.set; journal = journal; tables = tables })
go_keeps core now journal tables job op outcome over same ej et lt said is = record {
  history = is.history ++ Step job op outcome over (state_of now.set is.history).now ∷ [];
  stands = go_after core now journal tables job op outcome over same ej et lt said is.history (subst (λ (p : PlainIs). Stands p is.history) same is.stands);
}
