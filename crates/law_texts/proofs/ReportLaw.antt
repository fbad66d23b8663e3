-- The lines of a report are short, and so is the report of a scenario's run.
use Rattle.std.proofs.Common.{ℕ, ◌+◌, ◌*◌, ◌<◌, ◌≤◌, ◌^◌, Bool, List, ◌++◌, length, decimal, arith, codes, length-append}
use Rattle.std.specs.List.{All}
use Rattle.std.proofs.lemmas.Fmt.{length-decimal-le}
use Rattle.rt_base.specs.Names.{AreNames}
use Rattle.rt_base.specs.declared.ids.JobId.{JobId}
use Rattle.rt_base.specs.declared.name.Names.{Names}
use Rattle.txn_set.specs.Set.{Set, IsCompiled}
use Rattle.step_journal.specs.declared.entry.Entry.{Entry}
use Rattle.step_journal.specs.History.{IsLegal, state_of}
use Rattle.law_histories.specs.Counting.{plan_count}
use Rattle.law_histories.proofs.Sums.{sum_member}
use Rattle.law_histories.proofs.CountingAll.{entries_few, time_bounded}
use Rattle.law_times.specs.Deadlines.{ResponseIsFound}
use Rattle.board.proofs.Counts.{items_count}
use Rattle.job_rows.specs.Rows.{job_rows}
use Rattle.step_script.specs.Shown.{Shown, set_of}
use Rattle.law_runs.specs.Runs.{workload_of}
use Rattle.law_runs.specs.Plannable.{eager_jobs_of}
use Rattle.law_runs.proofs.Fits.{run_fits, scenario_room}
use Rattle.journal_text.proofs.IdLaws.{short_length}
use Rattle.report_text.specs.Texts.{is_second, whole_entry_line, entries_text, job_line, jobs_text, finals_text}
use Rattle.run_report.specs.Report.{opening_text, report_of}
use Rattle.run_report.proofs.Every.{Every, every_all, all_every}
use Rattle.run_report.proofs.Steps.{HistoryFits, history_fits, all_values}
use Rattle.law_texts.proofs.RunTexts.{items_fit, within_fits, run_values}
use Rattle.law_texts.specs.Lines.{IsShort, IsNamedHistory, EntryLinesAreShort, JobLinesAreShort, FewJobsHaveShortLines}
use Rattle.law_texts.specs.RunLaws.{IsRunOfScenario, HasFewShortLines, RunLinesAreShort, RunIsReadWhole}
use Rattle.law_texts.proofs.Lengths.{numbered_length, every_places}
use Rattle.law_texts.proofs.EntryLines.{entry_lines}
use Rattle.law_texts.proofs.JobLines.{IsShortRow, job_line_length, rows_short, every_weaker}
use Rattle.law_texts.proofs.JobCounts.{count_in_set, all_planned, few_jobs}
use Rattle.law_texts.proofs.Head.{opening_length, finals_length}

-- ---- lines

named_fits : (names : Names) (set : Set) (entries : List Entry) → IsNamedHistory names set entries → HistoryFits set entries
named_fits names set entries h =
    history_fits set entries entries_few time_bounded h.compiled h.legal h.types.items (all_values set entries h.types.values)

pub entries_short : EntryLinesAreShort
entries_short names set entries place h =
    entry_lines names set entries place h.item_names h.txn_names h.compiled h.legal (named_fits names set entries h)

-- ---- jobs, with so many digits in each serial

few_digits : (n most : ℕ) → n < most → most ≤ 2 ^ 16 → length (decimal n) ≤ 5
few_digits n most lt le = length-decimal-le 5 n (omega arith) (omega arith) (omega arith)

module _ (names : Names) (set : Set) (entries : List Entry) (items : AreNames names.items) (txns : AreNames names.txns)
    (ok : IsCompiled set) (legal : IsLegal set entries) (fits : HistoryFits set entries) (place : ℕ) where
  jobs_by : (digits : ℕ) → ((job : JobId) → job.serial < plan_count entries job.tx.0 → length (decimal job.serial) ≤ digits)
      → Every (λ row. length (job_line names place row) ≤ 188 + 2 * digits) (job_rows set entries)
  jobs_by digits short =
      every_weaker (IsShortRow digits (is_second set)) (λ row. length (job_line names place row) ≤ 188 + 2 * digits) (job_rows set entries)
      (λ row is. job_line_length names digits place (is_second set) row items txns is)
      (rows_short set entries digits ok legal fits short)

  any_jobs : All (λ row. length (job_line names place row) < 210) (job_rows set entries)
  any_jobs =
      all_every (λ row. length (job_line names place row) < 210) (job_rows set entries)
      (every_weaker (λ row. length (job_line names place row) ≤ 188 + 2 * 10) (λ row. length (job_line names place row) < 210) (job_rows set entries)
      (λ row le. omega (arith, le))
      (jobs_by 10 (λ job lt. short_length job.serial (omega (arith, lt, (entries_few set entries ok legal).planned job.tx.0)))))

  short_jobs : ((tx : ℕ) → tx < length set.txns → plan_count entries tx ≤ 2 ^ 16)
      → All (λ row. IsShort (job_line names place row)) (job_rows set entries)
  short_jobs few =
      all_every (λ row. IsShort (job_line names place row)) (job_rows set entries)
      (every_weaker (λ row. length (job_line names place row) ≤ 188 + 2 * 5) (λ row. IsShort (job_line names place row)) (job_rows set entries)
      (λ row le. omega (arith, le))
      (jobs_by 5 (λ job lt. few_digits job.serial (plan_count entries job.tx.0) lt (few job.tx.0 (count_in_set set entries job.tx.0 job.serial ok legal lt)))))

pub jobs_nearly_short : JobLinesAreShort
jobs_nearly_short names set entries place h =
    any_jobs names set entries h.item_names h.txn_names h.compiled h.legal (named_fits names set entries h) place

pub jobs_short : FewJobsHaveShortLines
jobs_short names set entries place h few =
    short_jobs names set entries h.item_names h.txn_names h.compiled h.legal (named_fits names set entries h) place (λ tx lt. few tx)

-- ---- the run of a scenario

module _ (s : Shown) (history : List Entry) (r : IsRunOfScenario s history) where
  run_legal : IsLegal (set_of s) history
  run_legal = r.run.so_far.legal

  run_fit : HistoryFits (set_of s) history
  run_fit =
      history_fits (set_of s) history entries_few time_bounded r.compiled run_legal (items_fit s r.scenario r.integers)
      (run_values s history r.integers r.run.so_far.script_run)

  planned_few : (tx : ℕ) → tx < length s.txns → plan_count history tx ≤ 2 ^ 16
  planned_few tx lt =
      omega (arith, sum_member (plan_count history) tx (length s.txns) lt, all_planned s history r.scenario r.compiled r.run)

  few_entries : length history < 2 ^ 20
  few_entries =
      omega (
        arith,
        run_fits (workload_of s) (eager_jobs_of s) history r.compiled r.run.so_far,
        scenario_room s r.scenario,
        r.scenario.small_room,
      )

  pub few_short_lines : HasFewShortLines s history
  few_short_lines = record {
    few_entries = few_entries;
    few_jobs = few_jobs s history r.scenario r.compiled r.run;
    entries = λ place. entry_lines s.names (set_of s) history place r.scenario.item_names r.scenario.txn_names r.compiled run_legal run_fit;
    jobs = λ place. short_jobs s.names (set_of s) history r.scenario.item_names r.scenario.txn_names r.compiled run_legal run_fit place planned_few;
  }

  entries_length : length (entries_text s.names history) ≤ 199 * length history
  entries_length =
      numbered_length (whole_entry_line s.names) 199 0 history
      (every_places (whole_entry_line s.names) 199 history (λ place.
      every_weaker (λ e. IsShort (whole_entry_line s.names place e)) (λ e. length (whole_entry_line s.names place e) ≤ 199) history
      (λ e lt. omega (arith, lt)) (every_all (λ e. IsShort (whole_entry_line s.names place e)) history (few_short_lines.entries place))))

  jobs_length : length (jobs_text s.names (job_rows (set_of s) history)) ≤ 199 * length (job_rows (set_of s) history)
  jobs_length =
      numbered_length (job_line s.names) 199 0 (job_rows (set_of s) history)
      (every_places (job_line s.names) 199 (job_rows (set_of s) history) (λ place.
      every_weaker (λ row. IsShort (job_line s.names place row)) (λ row. length (job_line s.names place row) ≤ 199) (job_rows (set_of s) history)
      (λ row lt. omega (arith, lt)) (every_all (λ row. IsShort (job_line s.names place row)) (job_rows (set_of s) history) (few_short_lines.jobs place))))

  last_length : length (finals_text s.names (state_of (set_of s) history).items) ≤ 81 * 256
  last_length =
      omega (
        arith,
        finals_length s.names (set_of s) r.scenario.item_names r.scenario.txn_names r.compiled (state_of (set_of s) history).items run_fit.state.items,
        items_count (set_of s) history,
        r.compiled.few_items,
      )

  pub report_length : (found : ResponseIsFound) (admitted : Bool) → length (report_of s.names (set_of s) admitted history) ≤ 2 ^ 28
  report_length found admitted =
      let opening : List ℕ = opening_text s.names (set_of s) admitted in
      let entries : List ℕ = entries_text s.names history in
      let jobs : List ℕ = jobs_text s.names (job_rows (set_of s) history) in
      let finals : List ℕ = finals_text s.names (state_of (set_of s) history).items in
      omega (
        arith,
        length-append opening (entries ++ (jobs ++ (finals ++ codes "end\n"))),
        length-append entries (jobs ++ (finals ++ codes "end\n")),
        length-append jobs (finals ++ codes "end\n"),
        length-append finals (codes "end\n"),
        opening_length s.names (set_of s) r.scenario.item_names r.scenario.txn_names r.compiled found admitted (record { items = items_fit s r.scenario r.integers; within = within_fits s r.scenario }),
        entries_length,
        jobs_length,
        last_length,
        few_entries,
        few_jobs s history r.scenario r.compiled r.run,
      )

pub run_lines : RunLinesAreShort
run_lines s history r = few_short_lines s history r

pub run_whole : ResponseIsFound → RunIsReadWhole
run_whole found s admitted history r = report_length s history r found admitted
