-- The job of each row was released.
use Rattle.std.proofs.Common.{◌≡◌, ℕ, ◌<◌, true, List, length, map, get_or, Option, None, Some, refl, ap, sym, subst, inl, inr}
use Rattle.std.specs.Prelude.{is_some}
use Rattle.txn_set.specs.Set.{Set, IsCompiled}
use Rattle.step_journal.specs.declared.entry.Entry.{Entry}
use Rattle.step_journal.specs.declared.entry.EndedJob.{EndedJob}
use Rattle.step_journal.specs.State.{Row, pending, same_job}
use Rattle.step_journal.specs.LockRule.{in_falling_priority}
use Rattle.step_journal.specs.Running.{job_row}
use Rattle.step_journal.specs.History.{IsLegal, state_of}
use Rattle.step_journal.specs.Timing.{Span, pending_span, ended_span}
use Rattle.law_histories.proofs.Members.{In, pending_in}
use Rattle.law_histories.proofs.Conflict.{in_get_or}
use Rattle.law_histories.proofs.Holding.{append_in, in_find, map_in}
use Rattle.law_histories.proofs.Calendar.{sorted_in}
use Rattle.board.proofs.Asks.{job_row_here}
use Rattle.job_rows.specs.declared.row.JobRow.{JobRow}
use Rattle.job_rows.specs.Rows.{pending_row, ended_row, job_rows}
use Rattle.job_rows.proofs.Named.{is_pending}
use Rattle.board.proofs.Overs.{same_self}
use Rattle.serial_replay.specs.Spans.{WasReleased}

span_of_ended : (e : Option EndedJob) (other : Option Span) → is_some e ≡ true → is_some (ended_span e other) ≡ true
span_of_ended None other h = absurd cc
span_of_ended (Some e) other h = refl

span_of_pending : (e : Option EndedJob) (other : Option Span) → is_some other ≡ true → is_some (ended_span e other) ≡ true
span_of_pending None other h = h
span_of_pending (Some e) other h = refl

ended_released : (set : Set) (entries : List Entry) (e : EndedJob) → In e (state_of set entries).ended → WasReleased set entries e.job
ended_released set entries e i =
    span_of_ended _ (pending_span (state_of set entries) (job_row (state_of set entries).rows e.job)) (in_find (λ d. same_job d.job e.job) e (state_of set entries).ended i (same_self e.job))

pending_released : (set : Set) (entries : List Entry) (x : Row) → IsCompiled set → IsLegal set entries → In x (pending (state_of set entries).rows) → WasReleased set entries x.job
pending_released set entries x ok legal i =
    let at = pending_in (state_of set entries).rows x i in
    let here = is_pending set entries at.0 x ok legal at.1 in
    span_of_pending _ _ (ap (λ (o : Option Row). is_some (pending_span (state_of set entries) o)) (job_row_here (state_of set entries).rows x here))

in_rows : (set : Set) (entries : List Entry) (row : JobRow) → IsCompiled set → IsLegal set entries → In row (job_rows set entries) → WasReleased set entries row.job
in_rows set entries row ok legal i =
    elim (append_in row (map (ended_row set entries) (state_of set entries).ended) (map (pending_row set entries) (in_falling_priority set (pending (state_of set entries).rows))) i) [
      | inl e ↦ (let m = map_in (ended_row set entries) row (state_of set entries).ended e in
          subst (λ (r : JobRow). WasReleased set entries r.job) (sym m.2) (ended_released set entries m.0 m.1))
      | inr p ↦ (let m = map_in (pending_row set entries) row (in_falling_priority set (pending (state_of set entries).rows)) p in
          subst (λ (r : JobRow). WasReleased set entries r.job) (sym m.2) (pending_released set entries m.0 ok legal (sorted_in set m.0 (pending (state_of set entries).rows) m.1)))
    ]

pub row_released : (set : Set) (entries : List Entry) (rows : List JobRow) (n : ℕ) (d : JobRow) → IsCompiled set → IsLegal set entries → rows ≡ job_rows set entries → n < length rows → WasReleased set entries (get_or rows n d).job
row_released set entries rows n d ok legal is lt =
    in_rows set entries (get_or rows n d) ok legal (subst (λ (l : List JobRow). In (get_or rows n d) l) is (in_get_or rows n d lt))
