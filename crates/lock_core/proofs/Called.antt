-- Each change of a core is one step of each history that it stands for.
use Rattle.std.proofs.Common.{◌≡◌, ℕ, ◌<◌, inl, inr, Bool, true, false, cond, List, [], ◌∷◌, ◌++◌, length, Option, None, Some, refl, ap, sym, ◌∙◌, subst, arith}
use Rattle.std.proofs.lemmas.Bool.Decides.{leb_tells}
use Rattle.std.specs.Prelude.{nat_le, Ok}
use Rattle.std.specs.Option.{option_map}
use Rattle.rt_base.specs.declared.ids.TxId.{TxId}
use Rattle.rt_base.specs.declared.ids.JobId.{JobId}
use Rattle.rt_base.specs.declared.operation.Op.{Op}
use Rattle.rt_base.specs.declared.operation.End.{End}
use Rattle.rt_base.specs.declared.operation.Op.TheVariants.{Compute}
use Rattle.rt_base.specs.declared.operation.Outcome.{Outcome}
use Rattle.rt_base.specs.declared.operation.Outcome.TheVariants.{Computed}
use Rattle.step_journal.specs.declared.entry.Entry.{Entry}
use Rattle.step_journal.specs.declared.entry.Entry.TheVariants.{Planned, Step, Blocked, Idle}
use Rattle.txn_set.specs.Set.{Set}
use Rattle.item_model.specs.Work.{outcome_of}
use Rattle.step_journal.specs.State.{State, Row, pending}
use Rattle.step_journal.specs.Running.{running}
use Rattle.step_journal.specs.Journal.{JournalSeen}
use Rattle.step_journal.specs.Instant.{arrived}
use Rattle.step_journal.specs.Step.{Event, plan, ask, idle, step, plans_of, earliest, next_job, with_plan, with_step, with_wait, end_of, next_tick}
use Rattle.step_journal.specs.History.{state_of, event_of}
use Rattle.law_histories.proofs.Never.{never_stuck}
use Rattle.law_histories.proofs.Invariant.{same_job_is}
use Rattle.board.specs.Answers.{IsAsking, plan_reply, step_reply, idle_reply, idle_reply_at, waiting_reply}
use Rattle.board.specs.Histories.{noted, step_entry}
use Rattle.board.specs.declared.replies.StepReply.{StepReply}
use Rattle.board.specs.declared.replies.StepReply.TheVariants as reply
use Rattle.board.specs.declared.replies.IdleReply.TheVariants as answer
use Rattle.board.proofs.More.{history_more, plan_steps, passes, not_le}
use Rattle.board.proofs.Rooms.{steps_full}
use Rattle.core_tables.specs.Seen.{TablesSeen}
use Rattle.core_tables.specs.Tables.{AreTables}
use Rattle.core_tables.specs.Arriving.{Computes}
use Rattle.core_tables.specs.Asks.{runs_now}
use Rattle.core_tables.specs.Legal.{IsLegalState, StandAsking, IsGranted, IsBlocked, IsIdle, Refuses}
use Rattle.core_tables.proofs.Steps.{granted_steps, blocked_steps, idle_steps}
use Rattle.core_tables.proofs.Refusals.{granted_reply, blocked_reply}
use Rattle.lock_core.specs.Seen.{CoreSeen, core_of}
use Rattle.lock_core.specs.Stands.{Stands, IsCore}
use Rattle.lock_core.specs.Calls.{IsCall}
use Rattle.lock_core.proofs.Stood.{legal_state}

abbrev pub with_entry : JournalSeen → Entry → JournalSeen
with_entry journal e = record journal { kept = journal.kept ++ e ∷ [] }

pub no_call : (core : CoreSeen) (history : List Entry) (event : Event) → Stands core history → IsCall core core history event None
no_call core history event h = record { stands = h; steps = tt; kept = refl }

called : (set : Set) (journal more : JournalSeen) (tables next_tables : TablesSeen) (history : List Entry) (e : Entry) (next : State) → more ≡ with_entry journal e → Stands (core_of set journal tables) history
    → step set (state_of set history) (event_of e) ≡ Some (e, next) → length journal.kept < journal.room → AreTables set next_tables next
    → IsCall (core_of set journal tables) (core_of set more next_tables) history (event_of e) (Some e)
called set journal more tables next_tables history e next ej h steps lt are =
    let m = history_more set journal.room journal.first journal.kept history e next h.is_history steps lt in
    subst (λ (j : JournalSeen). IsCall (core_of set journal tables) (core_of set j next_tables) history (event_of e) (Some e)) (sym ej) (record {
      stands = record { is_history = m.is_history; are = subst (λ (s : State). AreTables set next_tables s) m.state are };
      steps = steps ∙ ap (λ (s : State). Some (e, s)) m.state;
      kept = refl;
    })

pub plan_room : (set : Set) (s : State) (kept room tx tick : ℕ) (job : JobId) → plan_reply set s kept room tx tick ≡ Ok job → kept < room
plan_room set s kept room tx tick job said = (passes tick s.now (earliest set tx (plans_of s tx)) (length s.planned) kept room (next_job s tx) job said).0.roomy

pub plan_call : (set : Set) (journal more : JournalSeen) (tables next_tables : TablesSeen) (history : List Entry) (tx : TxId) (tick kept room : ℕ) (job : JobId) → more ≡ with_entry journal (Planned tx tick)
    → tx.0 < length set.txns → kept ≡ length journal.kept → room ≡ journal.room → plan_reply set (state_of set history) kept room tx.0 tick ≡ Ok job → AreTables set next_tables (with_plan (state_of set history) tx.0 tick)
    → Stands (core_of set journal tables) history → IsCall (core_of set journal tables) (core_of set more next_tables) history (plan tx.0 tick) (Some (Planned tx tick))
plan_call set journal more tables next_tables history tx tick kept room job ej lt ek er said are h =
    called set journal more tables next_tables history (Planned tx tick) (with_plan (state_of set history) tx.0 tick) ej h (plan_steps set (state_of set history) kept room tx tick job lt said)
    (omega (arith, plan_room set (state_of set history) kept room tx.0 tick job said, ek, er)) are

pub go_call : (set : Set) (journal more : JournalSeen) (tables next_tables : TablesSeen) (history : List Entry) (job : JobId) (op : Op) (outcome : Outcome) (over : Option End) (tick : ℕ)
    → more ≡ with_entry journal (Step job op outcome over tick) → tick ≡ tables.clock → length journal.kept < journal.room → (h : Stands (core_of set journal tables) history) → (g : IsGranted set (state_of set history) job op)
    → outcome ≡ outcome_of (state_of set history).items g.row.work op → over ≡ end_of (with_step set (state_of set history) g.row op) job → AreTables set next_tables (with_step set (state_of set history) g.row op)
    → IsCall (core_of set journal tables) (core_of set more next_tables) history (ask job op) (Some (Step job op outcome over (state_of set history).now))
go_call set journal more tables next_tables history job op outcome over tick ej et lt h g eo ev are =
    let s : State = state_of set history in
    let next : State = with_step set s g.row op in
    called set journal more tables next_tables history (Step job op outcome over s.now) next (ej ∙ ap (λ (n : ℕ). with_entry journal (Step job op outcome over n)) (et ∙ h.are.now)) h
    (granted_steps set s job op g ∙ (ap (λ (o : Outcome). Some (Step job op o (end_of next job) s.now, next)) (sym eo) ∙ ap (λ (v : Option End). Some (Step job op outcome v s.now, next)) (sym ev))) lt are

pub go_says : (set : Set) (journal : JournalSeen) (tables : TablesSeen) (history : List Entry) (job : JobId) (op : Op) (outcome : Outcome) (over : Option End) → length journal.kept < journal.room
    → (h : Stands (core_of set journal tables) history) → (g : IsGranted set (state_of set history) job op)
    → outcome ≡ outcome_of (state_of set history).items g.row.work op → over ≡ end_of (with_step set (state_of set history) g.row op) job
    → reply.Done outcome over ≡ step_reply set (state_of set history) (length journal.kept) journal.room job op
go_says set journal tables history job op outcome over lt h g eo ev =
    let s : State = state_of set history in
    ap (λ (o : Outcome). reply.Done o over) eo
    ∙ (ap (λ (v : Option End). reply.Done (outcome_of s.items g.row.work op) v) ev
    ∙ sym (granted_reply set s (length journal.kept) journal.room job op g (legal_state (core_of set journal tables) history h) lt))

pub block_says : (set : Set) (journal : JournalSeen) (tables : TablesSeen) (history : List Entry) (job : JobId) (op : Op) (by : JobId) (ceiling : ℕ) → length journal.kept < journal.room
    → Stands (core_of set journal tables) history → IsBlocked set (state_of set history) job op by ceiling
    → step_reply set (state_of set history) (length journal.kept) journal.room job op ≡ reply.Blocked by ceiling
block_says set journal tables history job op by ceiling lt h b =
    blocked_reply set (state_of set history) (length journal.kept) journal.room job op by ceiling b (legal_state (core_of set journal tables) history h) lt

-- a job that asks after one of the histories that the core stands for asks after each: the tables have their rows
pub asks_each : (core : CoreSeen) (one each : List Entry) (job : JobId) (op : Op) → Stands core one → Stands core each → IsAsking core.set (state_of core.set one) job op → IsAsking core.set (state_of core.set each) job op
asks_each core one each job op h k a =
    let same : (state_of core.set each).rows ≡ (state_of core.set one).rows = sym k.are.rows.rows ∙ h.are.rows.rows in
    record { row = a.row; runs = ap (running core.set) same ∙ a.runs; is = a.is; may = a.may }

pub asks_some : (core : CoreSeen) (job : JobId) (op : Op) → (history : List Entry) × Stands core history × IsAsking core.set (state_of core.set history) job op → StandAsking core.set core.tables job op
asks_some core job op asks = record { state = state_of core.set asks.0; are = asks.1.are; legal = legal_state core asks.0 asks.1; asking = asks.2 }

-- a Compute needs no lock, so that the running job gets it

pub runs_compute : (set : Set) (s : State) (job : JobId) → runs_now (option_map (λ (r : Row). r.job) (running set s.rows)) job ≡ true → IsGranted set s job Compute
runs_compute set s job e = by_row (running set s.rows) refl e where
  by_row : (o : Option Row) → running set s.rows ≡ o → runs_now (option_map (λ (r : Row). r.job) o) job ≡ true → IsGranted set s job Compute
  by_row (Some row) is t = record { row = row; runs = is; is = same_job_is row.job job t; may = refl; free = refl }
  by_row None is t = cc

pub compute_call : (set : Set) (journal more : JournalSeen) (tables next_tables : TablesSeen) (history : List Entry) (job : JobId) (tick : ℕ) → more ≡ with_entry journal (Step job Compute Computed None tick) → tick ≡ tables.clock
    → length journal.kept < journal.room → Stands (core_of set journal tables) history → (g : IsGranted set (state_of set history) job Compute) → Computes set next_tables (state_of set history) g.row
    → IsCall (core_of set journal tables) (core_of set more next_tables) history (ask job Compute) (Some (Step job Compute Computed None (state_of set history).now))
compute_call set journal more tables next_tables history job tick ej et lt h g is =
    go_call set journal more tables next_tables history job Compute Computed None tick ej et lt h g refl
    (sym (subst (λ (j : JobId). end_of (with_step set (state_of set history) g.row Compute) j ≡ None) g.is is.goes_on)) is.are

pub compute_says : (set : Set) (journal : JournalSeen) (tables next_tables : TablesSeen) (history : List Entry) (job : JobId) → length journal.kept < journal.room
    → Stands (core_of set journal tables) history → (g : IsGranted set (state_of set history) job Compute) → Computes set next_tables (state_of set history) g.row
    → reply.Done Computed None ≡ step_reply set (state_of set history) (length journal.kept) journal.room job Compute
compute_says set journal tables next_tables history job lt h g is =
    go_says set journal tables history job Compute Computed None lt h g refl
    (sym (subst (λ (j : JobId). end_of (with_step set (state_of set history) g.row Compute) j ≡ None) g.is is.goes_on))

-- the same by the operation that the job asks for

pub stepped_calls : (old new : CoreSeen) (history : List Entry) (job : JobId) (op : Op) → op ≡ Compute
    → IsCall old new history (ask job Compute) (Some (Step job Compute Computed None (state_of old.set history).now))
    → IsCall old new history (ask job op) (step_entry (state_of old.set history).now job op (reply.Done Computed None))
stepped_calls old new history job op e t =
    subst (λ (o : Op). IsCall old new history (ask job o) (step_entry (state_of old.set history).now job o (reply.Done Computed None))) (sym e) t

pub block_call : (set : Set) (journal more : JournalSeen) (tables next_tables : TablesSeen) (history : List Entry) (job : JobId) (op : Op) (by : JobId) (ceiling tick : ℕ)
    → more ≡ with_entry journal (Blocked job op by ceiling tick) → tick ≡ tables.clock → length journal.kept < journal.room → (h : Stands (core_of set journal tables) history)
    → (b : IsBlocked set (state_of set history) job op by ceiling) → AreTables set next_tables (with_wait (state_of set history) b.row by)
    → IsCall (core_of set journal tables) (core_of set more next_tables) history (ask job op) (Some (Blocked job op by ceiling (state_of set history).now))
block_call set journal more tables next_tables history job op by ceiling tick ej et lt h b are =
    let s : State = state_of set history in
    called set journal more tables next_tables history (Blocked job op by ceiling s.now) (with_wait s b.row by) (ej ∙ ap (λ (n : ℕ). with_entry journal (Blocked job op by ceiling n)) (et ∙ h.are.now)) h
    (blocked_steps set s job op by ceiling b) lt are

pub idle_call : (set : Set) (journal more : JournalSeen) (tables next_tables : TablesSeen) (history : List Entry) (tick to : ℕ)
    → more ≡ with_entry journal (Idle tick to) → tick ≡ tables.clock → length journal.kept < journal.room → (h : Stands (core_of set journal tables) history)
    → IsIdle set (state_of set history) to → AreTables set next_tables (arrived set to (state_of set history))
    → IsCall (core_of set journal tables) (core_of set more next_tables) history idle (Some (Idle (state_of set history).now to))
idle_call set journal more tables next_tables history tick to ej et lt h i are =
    let s : State = state_of set history in
    called set journal more tables next_tables history (Idle s.now to) (arrived set to s) (ej ∙ ap (λ (n : ℕ). with_entry journal (Idle n to)) (et ∙ h.are.now)) h
    (idle_steps set s to i) lt are

-- where an answer lets a job wait, or the time go on, there is room for an entry

pub block_room : (set : Set) (s : State) (kept room : ℕ) (job : JobId) (op : Op) (by : JobId) (ceiling : ℕ) → step_reply set s kept room job op ≡ reply.Blocked by ceiling → kept < room
block_room set s kept room job op by ceiling said =
    let entry : step_entry s.now job op (step_reply set s kept room job op) ≡ Some (Blocked job op by ceiling s.now) = ap (step_entry s.now job op) said in
    elim (leb_tells room kept) [ inl t ↦ absurd (not_none _ _ (steps_full set s kept room job op t.0) entry) | inr f ↦ f.1 ] where
      not_none : (o : Option Entry) (e : Entry) → o ≡ None → o ≡ Some e → ⊥
      not_none o e a b = cc

full_at : (kept room t to : ℕ) (b : Bool) → nat_le room kept ≡ b → cond b (answer.Full room) (answer.Advanced t) ≡ answer.Advanced to → (Some t ≡ Some to) × (kept < room)
full_at kept room t to true e h = absurd cc
full_at kept room t to false e h = (cc, not_le room kept e)

waiting_at : (kept room to : ℕ) (n : Option ℕ) → waiting_reply kept room n ≡ answer.Advanced to → (n ≡ Some to) × (kept < room)
waiting_at kept room to None h = absurd cc
waiting_at kept room to (Some t) h = full_at kept room t to (nat_le room kept) refl h

advances_at : (s : State) (kept room to : ℕ) (o : Option Row) → idle_reply_at s kept room o ≡ answer.Advanced to → (o ≡ None) × ((next_tick s.planned ≡ Some to) × (kept < room))
advances_at s kept room to (Some r) h = absurd cc
advances_at s kept room to None h = (refl, waiting_at kept room to (next_tick s.planned) h)

pub advances : (set : Set) (s : State) (kept room to : ℕ) → IsLegalState set s → idle_reply set s kept room ≡ answer.Advanced to → IsIdle set s to
advances set s kept room to legal says =
    let a = advances_at s kept room to (running set s.rows) says in
    let runs : running set s.rows ≡ None → pending s.rows ≡ [] =
    subst (λ (k : State). running set k.rows ≡ None → pending k.rows ≡ []) (sym legal.is) (never_stuck set legal.history legal.compiled legal.legal).runs in
    record { none = runs a.0; next = a.1.0 }

pub idle_room : (set : Set) (s : State) (kept room to : ℕ) → idle_reply set s kept room ≡ answer.Advanced to → kept < room
idle_room set s kept room to says = (advances_at s kept room to (running set s.rows) says).1.1

-- what a refusal says, by its kind

abbrev Said : Set → State → ℕ → ℕ → JobId → Op → StepReply → Type 0
Said set s kept room job op r = (step_reply set s kept room job op ≡ r) × Refuses set s job op r

pub blocked_said : (set : Set) (s : State) (kept room : ℕ) (job : JobId) (op : Op) (r : StepReply) (by : JobId) (ceiling : ℕ) → r ≡ reply.Blocked by ceiling → Said set s kept room job op r → Said set s kept room job op (reply.Blocked by ceiling)
blocked_said set s kept room job op r by ceiling e said = subst (λ (x : StepReply). Said set s kept room job op x) e said

pub never_done : (set : Set) (s : State) (kept room : ℕ) (job : JobId) (op : Op) (r : StepReply) (outcome : Outcome) (over : Option End) → r ≡ reply.Done outcome over → Said set s kept room job op r → ⊥
never_done set s kept room job op r outcome over e said = (subst (λ (x : StepReply). Said set s kept room job op x) e said).1

-- the core stands for some history after the turn, since it did before
pub still_core : (old new : CoreSeen) (event : Event) (entry : List Entry → Option Entry) → IsCore old → ((history : List Entry) → Stands old history → IsCall old new history event (entry history)) → IsCore new
still_core old new event entry is call = record { history = noted is.history (entry is.history); stands = (call is.history is.stands).stands }
