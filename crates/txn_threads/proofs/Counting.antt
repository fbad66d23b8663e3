-- The jobs that have ended grow with the history, and what answers tell of them.
use Rattle.std.proofs.Common.{◌≡◌, ℕ, ◌+◌, ◌-◌, ◌≤◌, ◌==◌, Bool, true, false, if◌then◌else◌, nat_le, nat_lt, List, [], ◌∷◌, ◌++◌, length, Option, Some, None, Result, Ok, Err, refl, sym, ap, subst, ◌∙◌, arith, append_assoc, append-nil, length-append}
use Rattle.std.proofs.lemmas.List.Elements.{filter-append}
use Rattle.std.specs.Prelude.{is_some}
use Rattle.std.specs.List.{filter}
use Rattle.std.specs.Option.{option_map, option_and_then}
use Rattle.rt_base.specs.declared.ids.JobId.{JobId}
use Rattle.rt_base.specs.declared.ids.ItemId.{ItemId}
use Rattle.rt_base.specs.declared.operation.Op.{Op}
use Rattle.rt_base.specs.declared.operation.Op.TheVariants.{Read, Write, Compute, Commit, Quit}
use Rattle.rt_base.specs.declared.operation.End.{End}
use Rattle.rt_base.specs.declared.release.PlanRefused.{PlanRefused}
use Rattle.txn_set.specs.Set.{Set, txn_of, may_read, may_write}
use Rattle.step_journal.specs.declared.entry.Entry.{Entry}
use Rattle.step_journal.specs.declared.entry.Entry.TheVariants as entry
use Rattle.step_journal.specs.declared.entry.EndedJob.{EndedJob}
use Rattle.step_journal.specs.State.{State, Row, pending, opening, same_job}
use Rattle.step_journal.specs.LockRule.{Above}
use Rattle.step_journal.specs.Running.{running, of_job, job_row}
use Rattle.step_journal.specs.Instant.{with_end, arrived}
use Rattle.step_journal.specs.Step.{Event, plan, ask, idle, step, given, may_plan, with_plan, may_ask, row_after, end_by, settled, after_effect, with_step, with_wait, answered, asked, idled, next_tick, lock_refusal}
use Rattle.step_journal.specs.History.{event_of, state_given, state_after, states_after, state_of}
use Rattle.board.specs.declared.replies.StepReply.{StepReply}
use Rattle.board.specs.declared.replies.StepReply.TheVariants as reply
use Rattle.board.specs.Answers.{ended_number, early_or, unwritten, unwritten_or, checked, lock_reply, asked_reply, running_reply, step_reply, at_tick, last_end}
use Rattle.board.specs.Histories.{ended_of}
use Rattle.board.proofs.Overs.{arrived_ended}
use Rattle.turn_cell.specs.Turn.{Begins}
use Rattle.sim_run.proofs.Histories.{states_append}
use Rattle.txn_threads.specs.Rounds.{known_after}

-- the ended jobs of the one state begin those of the other
abbrev Grown : State → State → Type 0
Grown s t = (more : List EndedJob) × (t.ended ≡ s.ended ++ more)

stays : (s : State) → Grown s s
stays s = ([], sym (append-nil s.ended))

grown_again : (s t u : State) → Grown s t → Grown t u → Grown s u
grown_again s t u a b = (a.0 ++ b.0, b.1 ∙ (ap (λ (l : List EndedJob). l ++ b.0) a.1 ∙ append_assoc s.ended a.0 b.0))

arrived_grows : (set : Set) (tick : ℕ) (s : State) → Grown s (arrived set tick s)
arrived_grows set tick s = (_, arrived_ended set tick s)

settled_grows : (set : Set) (row : Row) (tick : ℕ) (o : Option End) (s : State) → Grown s (settled set row tick o s)
unfolding with_end
settled_grows set row tick None s = ([], sym (append-nil s.ended))
settled_grows set row tick (Some e) s = (_, refl)

answered_grows : (set : Set) (s : State) (row : Row) (op : Op) (o : Option Above) → Grown s (answered set s row op o).1
unfolding with_step after_effect with_wait
answered_grows set s row op None =
    let at : State = settled set (row_after s row op) (s.now + 1) (end_by set (row_after s row op) (s.now + 1) op) s in
    grown_again s at (arrived set (s.now + 1) at) (settled_grows set (row_after s row op) (s.now + 1) (end_by set (row_after s row op) (s.now + 1) op) s) (arrived_grows set (s.now + 1) at)
answered_grows set s row op (Some above) = ([], sym (append-nil s.ended))

given_grows : (s : State) (b : Bool) (p : Entry × State) → Grown s p.1 → Grown s (state_given s (given b p))
given_grows s true p g = g
given_grows s false p g = stays s

asked_grows : (set : Set) (s : State) (op : Op) (o : Option Row) → Grown s (state_given s (option_and_then (asked set s op) o))
asked_grows set s op None = stays s
asked_grows set s op (Some row) = given_grows s (may_ask set row op) (answered set s row op (lock_refusal set s row op)) (answered_grows set s row op (lock_refusal set s row op))

idled_at : (set : Set) (s : State) (o : Option ℕ) → Grown s (state_given s (option_map (λ t. (entry.Idle s.now t, arrived set t s)) o))
idled_at set s None = stays s
idled_at set s (Some t) = arrived_grows set t s

idled_grows : (set : Set) (s : State) (rows : List Row) → Grown s (state_given s (idled set s rows))
idled_grows set s (row ∷ rows) = stays s
idled_grows set s [] = idled_at set s (next_tick s.planned)

plan_grows : (s : State) (tx tick : ℕ) → Grown s (with_plan s tx tick)
unfolding with_plan
plan_grows s tx tick = ([], sym (append-nil s.ended))

event_grows : (set : Set) (s : State) (event : Event) → Grown s (state_given s (step set s event))
unfolding step
event_grows set s (plan tx tick) = given_grows s (may_plan set s tx tick) (entry.Planned (record { 0 = tx }) tick, with_plan s tx tick) (plan_grows s tx tick)
event_grows set s (ask job op) = asked_grows set s op (option_and_then (of_job job) (running set s.rows))
event_grows set s idle = idled_grows set s (pending s.rows)

states_grow : (set : Set) (s : State) (es : List Entry) → Grown s (states_after set s es)
states_grow set s [] = stays s
states_grow set s (e ∷ es) = grown_again s (state_after set s e) (states_after set (state_after set s e) es) (event_grows set s (event_of e)) (states_grow set (state_after set s e) es)

number_grows : (s t : State) (tx : ℕ) → Grown s t → ended_number s.ended tx ≤ ended_number t.ended tx
number_grows s t tx g =
    let test : EndedJob → Bool = λ e. e.job.tx.0 == tx in
    omega (arith, ap (λ (l : List EndedJob). length (filter test l)) g.1, ap length (filter-append test s.ended g.0), length-append (filter test s.ended) (filter test g.0))

-- what has ended in a beginning of a history has ended in it
pub ended_grow : (set : Set) (h k : List Entry) (tx : ℕ) → Begins h k → ended_of set h tx ≤ ended_of set k tx
ended_grow set h k tx b =
    let all : state_of set k ≡ states_after set (state_of set h) b.0 = ap (state_of set) b.1 ∙ states_append set (opening set) h b.0 in
    subst (λ (s : State). ended_of set h tx ≤ ended_number s.ended tx) (sym all) (number_grows (state_of set h) (states_after set (state_of set h) b.0) tx (states_grow set (state_of set h) b.0))

-- answers

-- the answer tells no number of ended jobs
abbrev Mute : StepReply → Type 0
Mute r = (n : ℕ) → known_after n r ≡ n

either_mute : (b : Bool) (x y : StepReply) → Mute x → Mute y → Mute (if b then x else y)
either_mute true x y p q = p
either_mute false x y p q = q

unwritten_mute : (o : Option ItemId) (rest : StepReply) → Mute rest → Mute (unwritten_or o rest)
unwritten_mute None rest p = p
unwritten_mute (Some item) rest p = λ n. refl

checked_mute : (set : Set) (row : Row) (op : Op) (rest : StepReply) → Mute rest → Mute (checked set row op rest)
checked_mute set row (Read item) rest p =
    either_mute (may_read (txn_of set row.job.tx.0) item.0) (early_or (txn_of set row.job.tx.0) row rest) (reply.Undeclared item)
    (either_mute (nat_lt row.used (txn_of set row.job.tx.0).quiet) (reply.TooEarly ((txn_of set row.job.tx.0).quiet - row.used)) rest (λ n. refl) p) (λ n. refl)
checked_mute set row (Write item value) rest p =
    either_mute (may_write (txn_of set row.job.tx.0) item.0) (early_or (txn_of set row.job.tx.0) row rest) (reply.Undeclared item)
    (either_mute (nat_lt row.used (txn_of set row.job.tx.0).quiet) (reply.TooEarly ((txn_of set row.job.tx.0).quiet - row.used)) rest (λ n. refl) p) (λ n. refl)
checked_mute set row Compute rest p = p
checked_mute set row Commit rest p = unwritten_mute (unwritten set (txn_of set row.job.tx.0).writes row.work) rest p
checked_mute set row Quit rest p = p

lock_mute : (set : Set) (s : State) (row : Row) (op : Op) (o : Option Above) → Mute (lock_reply set s row op o)
lock_mute set s row op None = λ n. refl
lock_mute set s row op (Some above) = λ n. refl

running_mute : (set : Set) (s : State) (kept room : ℕ) (job : JobId) (op : Op) (o : Option Row) → Mute (running_reply set s kept room job op o)
running_mute set s kept room job op None = λ n. refl
running_mute set s kept room job op (Some row) =
    either_mute (same_job row.job job) (asked_reply set s kept room op row) (reply.NotYet row.job)
    (checked_mute set row op (if nat_le room kept then reply.Full room else lock_reply set s row op (lock_refusal set s row op))
    (either_mute (nat_le room kept) (reply.Full room) (lock_reply set s row op (lock_refusal set s row op)) (λ n. refl) (lock_mute set s row op (lock_refusal set s row op)))) (λ n. refl)

either_known : (b : Bool) (x : StepReply) (ended : ℕ) (last : Option End) (n top : ℕ) → Mute x → n ≤ top → ended ≤ top → known_after n (if b then x else reply.NoJob ended last) ≤ top
either_known true x ended last n top m p q = subst (λ (k : ℕ). k ≤ top) (sym (m n)) p
either_known false x ended last n top m p q = q

-- the jobs that are known to have ended after an answer had ended in its history
pub known_bound : (set : Set) (s : State) (kept room : ℕ) (job : JobId) (op : Op) (r : StepReply) (n top : ℕ) → r ≡ step_reply set s kept room job op → n ≤ top → ended_number s.ended job.tx.0 ≤ top → known_after n r ≤ top
known_bound set s kept room job op r n top is p q = subst (λ (x : StepReply). known_after n x ≤ top) (sym is)
    (either_known (is_some (job_row s.rows job)) (running_reply set s kept room job op (running set s.rows)) (ended_number s.ended job.tx.0) (last_end s.ended job.tx.0) n top (running_mute set s kept room job op (running set s.rows)) p q)

-- the tick of a plan that was granted
abbrev granted_tick : ℕ → Result (JobId × ℕ) PlanRefused → ℕ
granted_tick other (Ok p) = p.1
granted_tick other (Err e) = other

at_tick_is : (tick : ℕ) (r : Result JobId PlanRefused) → granted_tick tick (at_tick tick r) ≡ tick
at_tick_is tick (Ok job) = refl
at_tick_is tick (Err e) = refl

pub tick_of : (tick : ℕ) (r : Result JobId PlanRefused) (p : JobId × ℕ) → Ok p ≡ at_tick tick r → p.1 ≡ tick
tick_of tick r p is = ap (granted_tick tick) is ∙ at_tick_is tick r
