-- The lines of jobs are short.
use Rattle.std.proofs.Common.{◌≡◌, ℕ, ◌+◌, ◌*◌, ◌-◌, ◌<◌, ◌≤◌, ◌^◌, Bool, true, false, cond, ◌&&◌, List, [], ◌∷◌, ◌++◌, map, length, Option, Some, None, decimal, refl, sym, subst, arith, length-append}
use Rattle.std.specs.Prelude.{slice_get, nat_lt, nat_le}
use Rattle.std.specs.List.{filter}
use Rattle.rt_base.specs.Names.{AreNames}
use Rattle.rt_base.specs.declared.ids.JobId.{JobId}
use Rattle.rt_base.specs.declared.name.Names.{Names}
use Rattle.rt_base.specs.declared.operation.End.{End}
use Rattle.txn_set.specs.declared.decl.TxnDecl.{TxnDecl}
use Rattle.txn_set.specs.Set.{Set, IsCompiled}
use Rattle.txn_set.specs.Ceilings.{greatest, may_block, blocking}
use Rattle.step_journal.specs.declared.entry.Entry.{Entry}
use Rattle.step_journal.specs.declared.entry.Entry.TheVariants.{Planned, Step, Blocked, Idle}
use Rattle.step_journal.specs.declared.entry.EndedJob.{EndedJob}
use Rattle.step_journal.specs.State.{Row, pending, prio_of, row_of}
use Rattle.step_journal.specs.LockRule.{in_falling_priority}
use Rattle.step_journal.specs.Timing.{Span, span_of, delayer_in, delayers_within, delayers}
use Rattle.step_journal.specs.History.{IsLegal, IsLegalEntry, state_of}
use Rattle.law_histories.specs.Counting.{plan_count}
use Rattle.law_histories.proofs.CountingAll.{time_bounded}
use Rattle.law_histories.proofs.Members.{In, in_at, pending_in}
use Rattle.law_histories.proofs.Lists.{filter_map_in}
use Rattle.law_histories.proofs.Invariant.{IsPending}
use Rattle.law_histories.proofs.Calendar.{sorted_in}
use Rattle.law_histories.proofs.Never.{legal_sound}
use Rattle.law_histories.proofs.SerialAll.{legal_serial}
use Rattle.law_histories.proofs.DelayAll.{legal_delay, one_delay}
use Rattle.law_runs.proofs.Counts.{count_append}
use Rattle.board.proofs.Asks.{running_here}
use Rattle.job_rows.specs.declared.row.JobRow.{JobRow}
use Rattle.job_rows.specs.Rows.{delay_of, with_delay, ended_row, pending_row, job_rows}
use Rattle.job_rows.proofs.Moved.{moves}
use Rattle.report_text.specs.Texts.{is_second, by_text, close_text, job_line}
use Rattle.run_report.proofs.Every.{Every, every_in, every_all, every_append, every_map, every_mapped, every_filter, every_greatest}
use Rattle.run_report.proofs.Fits.{EndFits, EndedFits}
use Rattle.run_report.proofs.Steps.{HistoryFits}
use Rattle.run_report.proofs.Ages.{deadline_most}
use Rattle.law_texts.proofs.Lengths.{name_length, tick_length, time_length, steps_length, job_length}
use Rattle.law_texts.proofs.Ends.{split, legal_at}
use Rattle.law_texts.proofs.EntryLines.{end_length}
use Rattle.law_texts.proofs.InTime.{in_time}

-- ---- the parts of a line

abbrev IsShortBy : ℕ → Option JobId → Type 0
IsShortBy digits None = Unit {0}
IsShortBy digits (Some job) = length (decimal job.serial) ≤ digits

-- it ended within a period of its release
pub record IsShortEnd (second : Bool) (release : ℕ) (e : End × ℕ) : Type 0 where
  pub end : EndFits second e.0
  pub tick : e.1 ≤ 2 ^ 40 + 2 ^ 30
  pub response : e.1 - release ≤ 2 ^ 30

abbrev IsShortClose : Bool → ℕ → Option (End × ℕ) → Type 0
IsShortClose second release None = Unit {0}
IsShortClose second release (Some e) = IsShortEnd second release e

-- its serials have so many digits, and its other numbers are within their ranges
pub record IsShortRow (digits : ℕ) (second : Bool) (row : JobRow) : Type 0 where
  pub serial : length (decimal row.job.serial) ≤ digits
  pub release : row.release ≤ 2 ^ 40 + 2 ^ 30
  pub close : IsShortClose second row.release row.end
  pub by : IsShortBy digits row.delayed_by
  pub delay : row.delay < 10000

close_length : (names : Names) (second : Bool) (release : ℕ) (o : Option (End × ℕ)) → AreNames names.items
    → IsShortClose second release o → length (close_text names release o) ≤ 97
close_length names second release None good fits = omega arith
close_length names second release (Some e) good fits =
    simp length-append (omega (
      arith,
      tick_length e.1 fits.tick,
      end_length names second e.0 good fits.end,
      time_length (e.1 - release) fits.response,
    ))

by_length : (names : Names) (digits : ℕ) (by : Option JobId) → AreNames names.txns → IsShortBy digits by
    → length (by_text names by) ≤ 33 + digits
by_length names digits None good fits = omega arith
by_length names digits (Some job) good fits = job_length names.txns job digits good fits

pub job_line_length : (names : Names) (digits place : ℕ) (second : Bool) (row : JobRow) → AreNames names.items
    → AreNames names.txns → IsShortRow digits second row → length (job_line names place row) ≤ 188 + 2 * digits
job_line_length names digits place second row items txns fits =
    simp length-append (omega (
      arith,
      name_length names.txns row.job.tx.0 txns,
      fits.serial,
      tick_length row.release fits.release,
      close_length names second row.release row.end items fits.close,
      by_length names digits row.delayed_by txns fits.by,
      steps_length row.delay fits.delay,
    ))

-- ---- the numbers of rows

pub blocking_most : (set : Set) (prio : ℕ) → IsCompiled set → blocking set prio < 10000
unfolding blocking
blocking_most set prio ok =
    let steps : Every (λ (t : TxnDecl). t.steps - t.quiet - 1 ≤ 9999) set.txns =
    every_all (λ (t : TxnDecl). t.steps - t.quiet - 1 ≤ 9999) set.txns (λ k d lt. omega (arith, (ok.times k d lt).steps.1)) in
    let lower : List TxnDecl = filter (λ t. nat_lt t.prio prio && may_block set prio t) set.txns in
    let least : greatest (map (λ t. t.steps - t.quiet - 1) lower) ≤ 9999 =
    every_greatest 9999 (map (λ t. t.steps - t.quiet - 1) lower)
    (every_map (λ (t : TxnDecl). t.steps - t.quiet - 1 ≤ 9999) (λ (n : ℕ). n ≤ 9999) (λ t. t.steps - t.quiet - 1) lower (λ t le. le)
    (every_filter (λ (t : TxnDecl). t.steps - t.quiet - 1 ≤ 9999) (λ t. nat_lt t.prio prio && may_block set prio t) set.txns steps)) in
    omega (arith, least)

-- the job of a step
abbrev IsStepOf : JobId → Entry → Type 0
IsStepOf job (Planned tx tick) = ⊥
IsStepOf job (Step by op outcome over tick) = by ≡ job
IsStepOf job (Blocked by op on ceiling tick) = ⊥
IsStepOf job (Idle from to) = ⊥

by_if : (test : Bool) (by job : JobId) → cond test (Some by) None ≡ Some job → by ≡ job
by_if true by job e = cc
by_if false by job e = absurd cc

delayer_steps : (set : Set) (job by : JobId) (span : Span) (e : Entry) → delayer_in set job span e ≡ Some by → IsStepOf by e
delayer_steps set job by span (Planned tx tick) h = absurd cc
delayer_steps set job by span (Step j op outcome over tick) h =
    by_if (nat_lt (prio_of set j) (prio_of set job) && nat_le span.from tick && nat_lt tick span.to) j by h
delayer_steps set job by span (Blocked j op on ceiling tick) h = absurd cc
delayer_steps set job by span (Idle from to) h = absurd cc

-- a serial is below the number of its transaction's plans
serial_at : (set : Set) (es : List Entry) (e : Entry) (job : JobId) → IsCompiled set → IsLegal set es
    → IsLegalEntry set (state_of set es) e → IsStepOf job e → job.serial < plan_count es job.tx.0
serial_at set es (Step by op outcome over tick) job ok legal next of =
    let m = moves set (state_of set es) (Step by op outcome over tick) next in
    let here : IsPending (state_of set es).rows m.row = running_here set es ok legal m.row m.runs in
    let lt : m.row.job.serial < plan_count es m.row.job.tx.0 =
    omega (arith, ((legal_sound set es ok legal).calendar.released m.row here).1, (time_bounded set es ok legal).plans m.row.job.tx.0) in
    subst (λ (j : JobId). j.serial < plan_count es j.tx.0) of
    (subst (λ (j : JobId). j.serial < plan_count es j.tx.0) m.job_is lt)
serial_at set es other job ok legal next of = absurd of

count_whole : (before after : List Entry) (e : Entry) (n : ℕ) → plan_count before n ≤ plan_count (before ++ e ∷ after) n
count_whole before after e n = omega (arith, count_append before (e ∷ after) n)

step_serial : (set : Set) (entries : List Entry) (e : Entry) (job : JobId) → IsCompiled set → IsLegal set entries
    → In e entries → IsStepOf job e → job.serial < plan_count entries job.tx.0
step_serial set entries e job ok legal i of =
    let s = split entries e i in
    let parts = legal_at set entries e s legal in
    let more : plan_count s.before job.tx.0 ≤ plan_count entries job.tx.0 =
    subst (λ (l : List Entry). plan_count s.before job.tx.0 ≤ plan_count l job.tx.0) (sym s.whole) (count_whole s.before s.after e job.tx.0) in
    omega (arith, serial_at set s.before e job ok parts.0 parts.1 of, more)

by_at : (jobs : List JobId) (o : Option JobId) (digits : ℕ) → slice_get jobs 0 ≡ o
    → ((j : JobId) → In j jobs → length (decimal j.serial) ≤ digits) → IsShortBy digits o
by_at jobs None digits e h = tt
by_at jobs (Some j) digits e h = h j (in_at jobs 0 j e)

module _ (set : Set) (entries : List Entry) (digits : ℕ) (ok : IsCompiled set) (legal : IsLegal set entries) (fits : HistoryFits set entries)
    (short : (job : JobId) → job.serial < plan_count entries job.tx.0 → length (decimal job.serial) ≤ digits) where
  within_short : (job by : JobId) (o : Option Span) → In by (delayers_within set entries job o)
      → length (decimal by.serial) ≤ digits
  within_short job by None i = absurd i
  within_short job by (Some span) i =
      let from = filter_map_in (delayer_in set job span) by entries i in
      short by (step_serial set entries from.0 by ok legal from.1 (delayer_steps set job by span from.0 from.2))

  row_short : (job : JobId) (release : ℕ) (end : Option (End × ℕ)) → job.serial < plan_count entries job.tx.0
      → release ≤ 2 ^ 40 + 2 ^ 30 → IsShortClose (is_second set) release end
      → IsShortRow digits (is_second set) (with_delay (delay_of set entries job) job release end)
  row_short job release end serial le close = record {
    serial = short job serial;
    release = le;
    close = close;
    by = by_at (delayers set entries job) (slice_get (delayers set entries job) 0) digits refl
        (λ j i. within_short job j (span_of (state_of set entries) job) i);
    delay = omega (arith, (one_delay set entries job ok legal).few, blocking_most set (prio_of set job) ok);
  }

  ended_short : (e : EndedJob) → In e (state_of set entries).ended
      → IsShortRow digits (is_second set) (ended_row set entries e)
  ended_short e i =
      let time = time_bounded set entries ok legal in
      let ended = in_time set entries ok legal e i in
      let tick : e.tick ≤ 2 ^ 40 + 2 ^ 30 = omega (arith, ((legal_delay set entries ok legal).done e i).tick, time.all) in
      row_short e.job e.release (Some (e.end, e.tick))
      (omega (arith, (legal_serial set entries ok legal).done e i, time.plans e.job.tx.0))
      (omega (arith, ended.after, tick))
      (record {
        end = (every_in (EndedFits (is_second set)) (state_of set entries).ended e fits.state.ended i).end;
        tick = tick;
        response = omega (arith, ended.before, deadline_most set e.job.tx.0 ok);
      })

  pending_short : (x : Row) → In x (pending (state_of set entries).rows)
      → IsShortRow digits (is_second set) (pending_row set entries x)
  pending_short x i =
      let time = time_bounded set entries ok legal in
      let sound = legal_sound set entries ok legal in
      let at = pending_in (state_of set entries).rows x i in
      let same : x.job.tx.0 ≡ at.0 = sound.frame.named at.0 x at.1 in
      let here : IsPending (state_of set entries).rows x = subst (λ (n : ℕ). row_of (state_of set entries).rows n ≡ Some x) (sym same) at.1 in
      row_short x.job x.release None
      (omega (arith, (sound.calendar.released x here).1, time.plans x.job.tx.0))
      (omega (arith, (legal_delay set entries ok legal).since x here, time.all)) tt

  pub rows_short : Every (IsShortRow digits (is_second set)) (job_rows set entries)
  rows_short =
      every_append (IsShortRow digits (is_second set)) (map (ended_row set entries) (state_of set entries).ended)
      (map (pending_row set entries) (in_falling_priority set (pending (state_of set entries).rows)))
      (every_mapped (IsShortRow digits (is_second set)) (ended_row set entries) (state_of set entries).ended ended_short)
      (every_mapped (IsShortRow digits (is_second set)) (pending_row set entries) (in_falling_priority set (pending (state_of set entries).rows))
      (λ x i. pending_short x (sorted_in set x (pending (state_of set entries).rows) i)))

pub every_weaker : {A : Type 0} (P Q : A → Type 0) (xs : List A) → ((x : A) → P x → Q x) → Every P xs → Every Q xs
every_weaker P Q [] f h = tt
every_weaker P Q (x ∷ xs) f h = (f x h.0, every_weaker P Q xs f h.1)
