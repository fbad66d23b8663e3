-- The rows of a legal history's jobs have lines.
use Rattle.std.proofs.Common.{◌≡◌, ℕ, ◌<◌, ◌≤◌, ◌^◌, Bool, true, false, cond, ◌&&◌, List, map, length, Option, Some, None, refl, sym, subst, arith}
use Rattle.std.specs.List.{All}
use Rattle.std.specs.Prelude.{slice_get, nat_lt, nat_le}
use Rattle.rt_base.specs.declared.ids.JobId.{JobId}
use Rattle.rt_base.specs.declared.name.Names.{Names}
use Rattle.rt_base.specs.declared.operation.End.{End}
use Rattle.txn_set.specs.Set.{Set, IsCompiled}
use Rattle.step_journal.specs.declared.entry.Entry.{Entry}
use Rattle.step_journal.specs.declared.entry.Entry.TheVariants.{Planned, Step, Blocked, Idle}
use Rattle.step_journal.specs.declared.entry.EndedJob.{EndedJob}
use Rattle.step_journal.specs.State.{Row, pending, prio_of, row_of}
use Rattle.law_histories.proofs.Invariant.{IsPending}
use Rattle.step_journal.specs.LockRule.{in_falling_priority}
use Rattle.step_journal.specs.Timing.{Span, span_of, delayer_in, delayers_within, delayers}
use Rattle.step_journal.specs.History.{IsLegal, state_of}
use Rattle.law_histories.specs.Counting.{EntriesAreFew, TimeIsBounded}
use Rattle.job_rows.specs.declared.row.JobRow.{JobRow}
use Rattle.job_rows.specs.Rows.{delay_of, with_delay, ended_row, pending_row, job_rows}
use Rattle.law_histories.proofs.Members.{In, in_at, pending_in}
use Rattle.law_histories.proofs.Lists.{filter_map_in}
use Rattle.law_histories.proofs.Calendar.{sorted_in}
use Rattle.law_histories.proofs.Never.{legal_sound}
use Rattle.law_histories.proofs.SerialAll.{legal_serial}
use Rattle.report_text.specs.Texts.{is_second, KnownBy, KnownClose, KnownRow}
use Rattle.run_report.proofs.Every.{Every, every_in, every_append, every_mapped, every_both, every_all, filter_map_length}
use Rattle.run_report.proofs.Fits.{EndFits, EndedFits, row_fits}
use Rattle.run_report.proofs.Steps.{EntryFits, HistoryFits, pending_serial}
use Rattle.run_report.proofs.Jobs.{IsBy, IsClose, FitsRow}
use Rattle.run_report.proofs.Entries.{is_end, end_may}

-- ---- the numbers of a row

abbrev ByFits : Option JobId → Type 0
ByFits None = Unit {0}
ByFits (Some job) = job.serial < 2 ^ 32

abbrev CloseFits : Bool → Option (End × ℕ) → Type 0
CloseFits second None = Unit {0}
CloseFits second (Some e) = (e.1 < 2 ^ 64) × EndFits second e.0

record RowNumbers (second : Bool) (row : JobRow) : Type 0 where
  pub serial : row.job.serial < 2 ^ 32
  pub release : row.release < 2 ^ 64
  pub close : CloseFits second row.end
  pub by : ByFits row.delayed_by
  pub delay : row.delay < 2 ^ 64

by_if : (b : Bool) (by job : JobId) → by.serial < 2 ^ 32 → cond b (Some by) None ≡ Some job → job.serial < 2 ^ 32
by_if true by job lt e = let same : by ≡ job = cc in subst (λ (j : JobId). j.serial < 2 ^ 32) same lt
by_if false by job lt e = absurd cc

delayer_fits : (set : Set) (second : Bool) (job by : JobId) (span : Span) (e : Entry) → EntryFits second e
    → delayer_in set job span e ≡ Some by → by.serial < 2 ^ 32
delayer_fits set second job by span (Step j op outcome over tick) fits h =
    by_if (nat_lt (prio_of set j) (prio_of set job) && nat_le span.from tick && nat_lt tick span.to) j by fits.0 h
delayer_fits set second job by span (Planned tx tick) fits h = absurd cc
delayer_fits set second job by span (Blocked j op on ceiling tick) fits h = absurd cc
delayer_fits set second job by span (Idle from to) fits h = absurd cc

within_fits : (set : Set) (second : Bool) (entries : List Entry) (job by : JobId) (o : Option Span)
    → Every (EntryFits second) entries → In by (delayers_within set entries job o) → by.serial < 2 ^ 32
within_fits set second entries job by None fits i = absurd i
within_fits set second entries job by (Some span) fits i =
    let from = filter_map_in (delayer_in set job span) by entries i in
    delayer_fits set second job by span from.0 (every_in (EntryFits second) entries from.0 fits from.1) from.2

by_at : (jobs : List JobId) (o : Option JobId) → slice_get jobs 0 ≡ o → ((j : JobId) → In j jobs → j.serial < 2 ^ 32)
    → ByFits o
by_at jobs None e h = tt
by_at jobs (Some j) e h = h j (in_at jobs 0 j e)

few_delayers : (set : Set) (entries : List Entry) (job : JobId) (o : Option Span)
    → length (delayers_within set entries job o) ≤ length entries
few_delayers set entries job None = omega arith
few_delayers set entries job (Some span) = filter_map_length (delayer_in set job span) entries

module _ (set : Set) (entries : List Entry) (ok : IsCompiled set) (legal : IsLegal set entries) (few : EntriesAreFew) (time : TimeIsBounded) (h : HistoryFits set entries) where
  numbers : (job : JobId) (release : ℕ) (end : Option (End × ℕ)) → job.serial < 2 ^ 32 → release < 2 ^ 64
      → CloseFits (is_second set) end → RowNumbers (is_second set) (with_delay (delay_of set entries job) job release end)
  numbers job release end serial lt close = record {
    serial = serial;
    release = lt;
    close = close;
    by = by_at (delayers set entries job) (slice_get (delayers set entries job) 0) refl
        (λ j i. within_fits set (is_second set) entries job j (span_of (state_of set entries) job) h.each i);
    delay = omega (arith, few_delayers set entries job (span_of (state_of set entries) job), (few set entries ok legal).all);
  }

  ended_numbers : (e : EndedJob) → In e (state_of set entries).ended → RowNumbers (is_second set) (ended_row set entries e)
  ended_numbers e i =
      let fits = every_in (EndedFits (is_second set)) (state_of set entries).ended e h.state.ended i in
      let serial : e.job.serial < 2 ^ 32 = omega (arith, (legal_serial set entries ok legal).done e i, (time set entries ok legal).plans e.job.tx.0, (few set entries ok legal).planned e.job.tx.0) in
      numbers e.job e.release (Some (e.end, e.tick)) serial fits.release (fits.tick, fits.end)

  pending_numbers : (x : Row) → In x (pending (state_of set entries).rows) → RowNumbers (is_second set) (pending_row set entries x)
  pending_numbers x i =
      let sound = legal_sound set entries ok legal in
      let at = pending_in (state_of set entries).rows x i in
      let same : x.job.tx.0 ≡ at.0 = sound.frame.named at.0 x at.1 in
      let here : IsPending (state_of set entries).rows x = subst (λ (n : ℕ). row_of (state_of set entries).rows n ≡ Some x) (sym same) at.1 in
      let serial = pending_serial set entries x ok legal (few set entries ok legal) (time set entries ok legal) here in
      numbers x.job x.release None serial (row_fits (state_of set entries).rows x h.state.rows i).0 tt

  all_numbers : Every (RowNumbers (is_second set)) (job_rows set entries)
  all_numbers =
      every_append (RowNumbers (is_second set)) (map (ended_row set entries) (state_of set entries).ended)
      (map (pending_row set entries) (in_falling_priority set (pending (state_of set entries).rows)))
      (every_mapped (RowNumbers (is_second set)) (ended_row set entries) (state_of set entries).ended ended_numbers)
      (every_mapped (RowNumbers (is_second set)) (pending_row set entries) (in_falling_priority set (pending (state_of set entries).rows))
      (λ x i. pending_numbers x (sorted_in set x (pending (state_of set entries).rows) i)))

-- ---- rows with lines

is_close : (names : Names) (second : Bool) (release : ℕ) (o : Option (End × ℕ)) → KnownClose names o → CloseFits second o
    → IsClose names second release o
is_close names second release None known fits = tt
is_close names second release (Some e) known fits =
    record { end = is_end names second e.0 known fits.1; may = end_may second e.0 fits.1; tick = fits.0 }

is_by : (names : Names) (o : Option JobId) → KnownBy names o → ByFits o → IsBy names.txns o
is_by names None known fits = tt
is_by names (Some job) known fits = (known, fits)

fits_row : (names : Names) (second : Bool) (row : JobRow) → KnownRow names row → RowNumbers second row → FitsRow names second row
fits_row names second row known fits = record {
  job = (known.job, fits.serial);
  release = fits.release;
  close = is_close names second row.release row.end known.close fits.close;
  by = is_by names row.delayed_by known.by fits.by;
  delay = fits.delay;
}

pub rows_fit : (names : Names) (set : Set) (entries : List Entry) → IsCompiled set → IsLegal set entries → EntriesAreFew
    → TimeIsBounded → HistoryFits set entries → All (KnownRow names) (job_rows set entries)
    → Every (FitsRow names (is_second set)) (job_rows set entries)
rows_fit names set entries ok legal few time h known =
    every_both (KnownRow names) (RowNumbers (is_second set)) (FitsRow names (is_second set)) (job_rows set entries)
    (fits_row names (is_second set)) (every_all (KnownRow names) (job_rows set entries) known)
    (all_numbers set entries ok legal few time h)
