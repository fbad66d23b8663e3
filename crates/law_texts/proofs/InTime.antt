-- Each job ends at its deadline at the latest.
use Rattle.std.proofs.Common.{◌≡◌, ℕ, ◌+◌, ◌≤◌, List, [], ◌∷◌, ◌++◌, map, Option, Some, None, sym, subst, inl, inr, arith}
use Rattle.std.specs.List.{filter}
use Rattle.std.proofs.lemmas.Bool.{eqb-true}
use Rattle.rt_base.specs.declared.operation.End.{End}
use Rattle.rt_base.specs.declared.operation.Op.{Op}
use Rattle.txn_set.specs.Set.{Set, IsCompiled, txn_of}
use Rattle.step_journal.specs.declared.entry.Entry.{Entry}
use Rattle.step_journal.specs.declared.entry.Entry.TheVariants.{Planned, Step, Blocked, Idle}
use Rattle.step_journal.specs.declared.entry.EndedJob.{EndedJob}
use Rattle.step_journal.specs.State.{State, Row, pending, opening}
use Rattle.step_journal.specs.Instant.{with_end, is_due, arrived}
use Rattle.step_journal.specs.Step.{row_after, end_by, settled, after_effect, with_step, with_plan, with_wait}
use Rattle.step_journal.specs.History.{state_after, states_after, IsLegalFrom, IsLegal, state_of}
use Rattle.law_histories.proofs.Members.{In, filter_in}
use Rattle.law_histories.proofs.Invariant.{IsPending}
use Rattle.law_histories.proofs.Holding.{append_in, map_in}
use Rattle.law_histories.proofs.Calendar.{sorted_in}
use Rattle.law_histories.proofs.Never.{legal_sound}
use Rattle.law_histories.proofs.DelayAll.{legal_delay}
use Rattle.sim_run.proofs.Histories.{state_next, legal_next}
use Rattle.board.proofs.Asks.{running_here}
use Rattle.board.proofs.Overs.{gone_at, arrived_ended, late_of as late_job}
use Rattle.job_rows.proofs.Moved.{Moves, moves}

-- a job ended between its release and its deadline
pub record IsInTime (set : Set) (e : EndedJob) : Type 0 where
  pub after : e.release ≤ e.tick
  pub before : e.tick ≤ e.release + (txn_of set e.job.tx.0).deadline

abbrev pub AreInTime : Set → List EndedJob → Type 0
AreInTime set ended = (e : EndedJob) → In e ended → IsInTime set e

one_more : (set : Set) (ended : List EndedJob) (d : EndedJob) → AreInTime set ended → IsInTime set d
    → AreInTime set (ended ++ d ∷ [])
one_more set ended d h good e i = elim (append_in e ended (d ∷ []) i) [
  | inl old ↦ h e old
  | inr (inl same) ↦ subst (IsInTime set) (sym same) good
  | inr (inr none) ↦ absurd none
]

late_at : (set : Set) (t : ℕ) (rows : List (Option Row)) (r : Row) → In r (gone_at set t rows)
    → r.release + (txn_of set r.job.tx.0).deadline ≡ t
late_at set t rows r i =
    eqb-true _ _ (filter_in (is_due set t) r (pending rows) (sorted_in set r (filter (is_due set t) (pending rows)) i)).1

late_in_time : (set : Set) (t : ℕ) (rows : List (Option Row)) (r : Row) → In r (gone_at set t rows)
    → IsInTime set (late_job t r)
late_in_time set t rows r i =
    let due = late_at set t rows r i in record { after = omega (arith, due); before = omega (arith, due) }

arrived_in_time : (set : Set) (t : ℕ) (s : State) → AreInTime set s.ended → AreInTime set (arrived set t s).ended
arrived_in_time set t s h =
    subst (AreInTime set) (sym (arrived_ended set t s)) (λ e i. elim (append_in e s.ended (map (late_job t) (gone_at set t s.rows)) i) [
      | inl old ↦ h e old
      | inr late ↦ (let from = map_in (late_job t) e (gone_at set t s.rows) late in
          subst (IsInTime set) (sym from.2) (late_in_time set t s.rows from.0 from.1))
    ])

settled_in_time : (set : Set) (x : Row) (tick : ℕ) (o : Option End) (s : State) → x.release ≤ tick
    → tick ≤ x.release + (txn_of set x.job.tx.0).deadline → AreInTime set s.ended
    → AreInTime set (settled set x tick o s).ended
unfolding with_end
settled_in_time set x tick None s after before h = h
settled_in_time set x tick (Some e) s after before h =
    one_more set s.ended (record { job = x.job; release = x.release; end = e; tick = tick }) h
    (record { after = after; before = before })

step_in_time : (set : Set) (es : List Entry) (x : Row) (op : Op) → IsCompiled set → IsLegal set es
    → IsPending (state_of set es).rows x → AreInTime set (state_of set es).ended
    → AreInTime set (with_step set (state_of set es) x op).ended
unfolding with_step after_effect
step_in_time set es x op ok legal here h =
    let s : State = state_of set es in
    let after : Row = row_after s x op in
    let how : Option End = end_by set after (s.now + 1) op in
    arrived_in_time set (s.now + 1) (settled set after (s.now + 1) how s)
    (settled_in_time set after (s.now + 1) how s (omega (arith, (legal_delay set es ok legal).since x here))
    ((legal_sound set es ok legal).calendar.alive x here) h)

entry_in_time : (set : Set) (es : List Entry) (e : Entry) (next : State) → IsCompiled set → IsLegal set es
    → Moves set (state_of set es) e next → AreInTime set (state_of set es).ended → AreInTime set next.ended
unfolding with_plan with_wait
entry_in_time set es (Planned tx tick) next ok legal m h =
    subst (λ (s : State). AreInTime set s.ended) (sym m.1) h
entry_in_time set es (Step job op outcome over tick) next ok legal m h =
    subst (λ (s : State). AreInTime set s.ended) (sym m.next_is)
    (step_in_time set es m.row op ok legal (running_here set es ok legal m.row m.runs) h)
entry_in_time set es (Blocked job op by ceiling tick) next ok legal m h =
    subst (λ (s : State). AreInTime set s.ended) (sym m.next_is) h
entry_in_time set es (Idle from to) next ok legal m h =
    subst (λ (s : State). AreInTime set s.ended) (sym m.next_is) (arrived_in_time set to (state_of set es) h)

along : (set : Set) (es rest : List Entry) → IsCompiled set → IsLegal set es → AreInTime set (state_of set es).ended
    → IsLegalFrom set (state_of set es) rest → AreInTime set (states_after set (state_of set es) rest).ended
along set es [] ok legal h from = h
along set es (e ∷ rest) ok legal h from =
    let state : state_of set (es ++ e ∷ []) ≡ state_after set (state_of set es) e = state_next set es e in
    let here : AreInTime set (state_after set (state_of set es) e).ended =
    entry_in_time set es e (state_after set (state_of set es) e) ok legal (moves set (state_of set es) e from.0) h in
    subst (λ (s : State). AreInTime set (states_after set s rest).ended) state
    (along set (es ++ e ∷ []) rest ok (legal_next set es e legal from.0)
    (subst (λ (s : State). AreInTime set s.ended) (sym state) here)
    (subst (λ (s : State). IsLegalFrom set s rest) (sym state) from.1))

none_ended : (set : Set) → AreInTime set (opening set).ended
unfolding opening
none_ended set e i = absurd i

pub in_time : (set : Set) (entries : List Entry) → IsCompiled set → IsLegal set entries
    → AreInTime set (state_of set entries).ended
in_time set entries ok legal = along set [] entries ok tt (none_ended set) legal
