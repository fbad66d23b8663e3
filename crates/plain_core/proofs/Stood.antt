-- What a core's history tells of its tables, and the changes that keep it.
use Rattle.std.proofs.Common.{◌≡◌, ℕ, suc, get_or, ◌^◌, ◌<◌, ◌≤◌, List, [], ◌∷◌, ◌++◌, length, map, Some, refl, ap, sym, ◌∙◌, subst, arith}
use Rattle.std.proofs.lemmas.List.{length-set, length-map}
use Rattle.std.specs.Prelude.{Result, Ok}
use Rattle.std.specs.List.{fold}
use Rattle.rt_base.specs.declared.ids.TxId.{TxId}
use Rattle.rt_base.specs.declared.ids.JobId.{JobId}
use Rattle.step_journal.specs.declared.entry.EndedJob.{EndedJob}
use Rattle.step_journal.specs.declared.entry.Entry.{Entry}
use Rattle.step_journal.specs.declared.entry.Entry.TheVariants.{Planned}
use Rattle.txn_set.specs.declared.decl.TxnDecl.{TxnDecl}
use Rattle.txn_set.specs.Set.{Set, IsCompiled, txn_of, no_txn}
use Rattle.txn_set.specs.Ceilings.{greatest}
use Rattle.step_journal.specs.State.{State, Row, row_of}
use Rattle.step_journal.specs.Step.{plans_of, with_plan, earliest, next_job}
use Rattle.step_journal.specs.History.{IsLegal, state_of}
use Rattle.law_histories.proofs.Calendar.{times_at}
use Rattle.law_histories.proofs.Never.{legal_sound}
use Rattle.law_histories.proofs.Invariant.{in_range}
use Rattle.law_histories.proofs.DelayAll.{legal_delay}
use Rattle.law_histories.specs.Counting.{greatest_period}
use Rattle.law_histories.proofs.CountingAll.{time_bounded}
use Rattle.rt_base.specs.declared.release.PlanRefused.{PlanRefused}
use Rattle.board.specs.Answers.{plan_reply}
use Rattle.board.proofs.More.{history_more, plan_steps, passes}
use Rattle.board.proofs.Bounds.{plans_early}
use Rattle.board.proofs.Counts.{items_count}
use Rattle.plain_core.specs.declared.tally.Tally.{Tally}
use Rattle.plain_core.specs.TablesSeen.{TablesSeen, cut, tables_of, with_ended, no_tally}
use Rattle.step_journal.specs.Journal.{JournalSeen}
use Rattle.plain_core.specs.Seen.{PlainIs}
use Rattle.plain_core.specs.Stands.{Stands, IsCore}

tallies_count : (ended : List EndedJob) (tallies : List Tally) → length (fold with_ended tallies ended) ≡ length tallies
tallies_count [] tallies = refl
tallies_count (e ∷ es) tallies = tallies_count es (with_ended tallies e) ∙ length-set tallies e.job.tx.0 _

-- the time is low, and so are the steps that a job has used

greatest_low : (f : TxnDecl → ℕ) (xs : List TxnDecl) (m : ℕ) → ((k : ℕ) → k < length xs → f (get_or xs k no_txn) ≤ m) → greatest (map f xs) ≤ m
greatest_low f [] m h = omega arith
greatest_low f (x ∷ xs) m h = omega (arith, h 0 (omega arith), greatest_low f xs m (λ k lt. h (suc k) (omega (arith, lt))))

now_early : (set : Set) (history : List Entry) → IsCompiled set → IsLegal set history → (state_of set history).now < 2 ^ 62
now_early set history ok legal =
    let t = time_bounded set history ok legal in
    let p : greatest_period set ≤ 2 ^ 30 = greatest_low (λ (t : TxnDecl). t.period) set.txns (2 ^ 30) (λ k lt. (times_at set k ok lt).period.1) in
    omega (arith, t.now, t.planned, p)

used_low : (set : Set) (history : List Entry) (n : ℕ) (row : Row) → IsCompiled set → IsLegal set history → row_of (state_of set history).rows n ≡ Some row → row.used < 2 ^ 62
used_low set history n row ok legal here =
    let sound = legal_sound set history ok legal in
    let own : row.job.tx.0 ≡ n = sound.frame.named n row here in
    let pends : row_of (state_of set history).rows row.job.tx.0 ≡ Some row = subst (λ (k : ℕ). row_of (state_of set history).rows k ≡ Some row) (sym own) here in
    let lt : row.job.tx.0 < length set.txns = omega (arith, in_range (state_of set history).rows row.job.tx.0 row pends, sound.frame.count) in
    omega (arith, (legal_delay set history ok legal).used row pends, (times_at set row.job.tx.0 ok lt).steps.1)

-- the tables have a place for each item and each transaction, and the planned ticks are small
pub record Fit (core : PlainIs) : Type 0 where
  pub plans : length core.tables.state.plans ≡ length core.set.txns
  pub items : length core.tables.state.items ≡ length core.set.items
  pub rows : length core.tables.state.rows ≡ length core.set.txns
  pub tallies : length core.tables.tallies ≡ length core.set.txns
  pub early : (n : ℕ) → (plans_of core.tables.state n).last ≤ 2 ^ 40
  pub periods : (n : ℕ) → n < length core.set.txns → (txn_of core.set n).period ≤ 2 ^ 30
  pub clock : core.tables.state.now < 2 ^ 62
  pub used : (n : ℕ) (row : Row) → row_of core.tables.state.rows n ≡ Some row → row.used < 2 ^ 62

pub fit : (core : PlainIs) (history : List Entry) → Stands core history → Fit core
fit core history h =
    let set = core.set in
    let sound = legal_sound set history h.is_history.compiled h.is_history.legal in
    record {
      plans = ap (λ (t : TablesSeen). length t.state.plans) h.is_state ∙ sound.calendar.plans_count;
      items = ap (λ (t : TablesSeen). length t.state.items) h.is_state ∙ items_count set history;
      rows = ap (λ (t : TablesSeen). length t.state.rows) h.is_state ∙ sound.frame.count;
      tallies = ap (λ (t : TablesSeen). length t.tallies) h.is_state ∙ (tallies_count (state_of set history).ended (map (λ t. no_tally) set.txns) ∙ length-map set.txns (λ t. no_tally));
      early = λ n. omega (arith, plans_early set history n, ap (λ (t : TablesSeen). (plans_of t.state n).last) h.is_state);
      periods = λ n lt. (times_at set n h.is_history.compiled lt).period.1;
      clock = omega (arith, ap (λ (t : TablesSeen). t.state.now) h.is_state, now_early set history h.is_history.compiled h.is_history.legal);
      used = λ n row here. used_low set history n row h.is_history.compiled h.is_history.legal (ap (λ (t : TablesSeen). row_of t.state.rows n) (sym h.is_state) ∙ here);
    }

pub fit_core : (core : PlainIs) → IsCore core → Fit core
fit_core core is = fit core is.history is.stands

-- a plan

abbrev pub plan_of : PlainIs → ℕ → ℕ → Result JobId PlanRefused
plan_of core tx tick = plan_reply core.set core.tables.state (length core.journal.kept) core.journal.room tx tick

-- the answer is that of the history
pub plan_says : (core : PlainIs) (history : List Entry) (tx tick kept room : ℕ) → Stands core history → plan_reply core.set core.tables.state kept room tx tick ≡ plan_reply core.set (state_of core.set history) kept room tx tick
plan_says core history tx tick kept room h = ap (λ (t : TablesSeen). plan_reply core.set t.state kept room tx tick) h.is_state

abbrev pub planned : PlainIs → TxId → ℕ → PlainIs
planned core tx tick = record core {
  journal = record core.journal { kept = core.journal.kept ++ Planned tx tick ∷ [] };
  tables = record core.tables { state = with_plan core.tables.state tx.0 tick };
}

plan_tables : (set : Set) (s : State) (tx tick : ℕ) → tables_of set (with_plan s tx tick) ≡ record (tables_of set s) { state = with_plan (cut s) tx tick }
unfolding with_plan
plan_tables set s tx tick = refl

pub plan_stands : (core : PlainIs) (history : List Entry) (tx : TxId) (tick : ℕ) (job : JobId) → tx.0 < length core.set.txns → plan_of core tx.0 tick ≡ Ok job → Stands core history → Stands (planned core tx tick) (history ++ Planned tx tick ∷ [])
plan_stands core history tx tick job lt ok h =
    let set = core.set in
    let said : plan_reply set (state_of set history) (length core.journal.kept) core.journal.room tx.0 tick ≡ Ok job = sym (plan_says core history tx.0 tick (length core.journal.kept) core.journal.room h) ∙ ok in
    let more = history_more set core.journal.room core.journal.first core.journal.kept history (Planned tx tick) (with_plan (state_of set history) tx.0 tick) h.is_history
    (plan_steps set (state_of set history) (length core.journal.kept) core.journal.room tx tick job lt said) (passes tick core.tables.state.now (earliest set tx.0 (plans_of core.tables.state tx.0)) (length core.tables.state.planned) (length core.journal.kept) core.journal.room (next_job core.tables.state tx.0) job ok).0.roomy in
    record {
      is_history = more.is_history;
      is_state = ap (λ (t : TablesSeen). record t { state = with_plan t.state tx.0 tick }) h.is_state
          ∙ (sym (plan_tables set (state_of set history) tx.0 tick) ∙ ap (tables_of set) more.state);
    }

pub plan_keeps : (core : PlainIs) (journal : JournalSeen) (tables : TablesSeen) (tx : TxId) (tick : ℕ) (job : JobId) → journal ≡ (planned core tx tick).journal → tables ≡ (planned core tx tick).tables
    → tx.0 < length core.set.txns → plan_of core tx.0 tick ≡ Ok job → IsCore core → IsCore (record { set = core.set; journal = journal; tables = tables })
plan_keeps core journal tables tx tick job ej et lt ok is = record {
  history = is.history ++ Planned tx tick ∷ [];
  stands = subst (λ (t : TablesSeen). Stands (record { set = core.set; journal = journal; tables = t }) (is.history ++ Planned tx tick ∷ [])) (sym et)
      (subst (λ (j : JournalSeen). Stands (record { set = core.set; journal = j; tables = (planned core tx tick).tables }) (is.history ++ Planned tx tick ∷ [])) (sym ej) (plan_stands core is.history tx tick job lt ok is.stands));
}

pub plan_after : (core now : PlainIs) (journal : JournalSeen) (tables : TablesSeen) (tx : TxId) (tick : ℕ) (job : JobId) → core ≡ now → journal ≡ (planned core tx tick).journal → tables ≡ (planned core tx tick).tables
    → tx.0 < length core.set.txns → plan_of core tx.0 tick ≡ Ok job → (history : List Entry) → Stands now history → Stands (record { set = core.set; journal = journal; tables = tables }) (history ++ Planned tx tick ∷ [])
plan_after core now journal tables tx tick job same ej et lt ok history h =
    subst (λ (t : TablesSeen). Stands (record { set = core.set; journal = journal; tables = t }) (history ++ Planned tx tick ∷ [])) (sym et)
    (subst (λ (j : JournalSeen). Stands (record { set = core.set; journal = j; tables = (planned core tx tick).tables }) (history ++ Planned tx tick ∷ [])) (sym ej)
    (plan_stands core history tx tick job lt ok (subst (λ (p : PlainIs). Stands p history) (sym same) h)))

pub set_size : (core now : PlainIs) → core ≡ now → length core.set.txns ≡ length now.set.txns
set_size core now e = ap (λ (p : PlainIs). length p.set.txns) e
