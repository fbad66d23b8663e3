-- What is kept of the jobs of each transaction, and what it comes to.
use Rattle.std.specs.Prelude.{◌≡◌, ℕ, ◌+◌, ◌-◌, ◌<◌, ◌^◌, Bool, true, List, [], ◌∷◌, codes, length, replicate, slice_set, slice_index_or, Option, None, Some}
use Rattle.std.specs.List.{count_by}
use Rattle.rt_base.specs.declared.name.Names.{Names}
use Rattle.rt_base.specs.declared.operation.End.{End}
use Rattle.txn_set.specs.Set.{Set, txn_of}
use Rattle.txn_set.specs.Ceilings.{blocking}
use Rattle.set_admission.specs.Bounds.{response_of}
use Rattle.job_rows.specs.declared.row.JobRow.{JobRow}
use Rattle.journal_text.specs.Lines.{◌⊕◌}
use Rattle.run_report.specs.Counts.{row_is}
use Rattle.report_export.specs.declared.tally.Tally.{Tally}
use Rattle.report_export.specs.Texts.{counts_line, worst_line, bound_in}
use Rattle.report_export.specs.Worsts.{at_least, worst, place_of, ended_at, is_pending, responses, delays}

abbrev pub no_jobs : Tally
no_jobs = record {
  ended = 0;
  ends = replicate 6 0;
  pending = 0;
  response = None;
  delay = None;
}

-- how many had an end of this place
abbrev pub count_at : Tally → ℕ → ℕ
count_at t place = slice_index_or t.ends place 0

-- one ended job more
abbrev pub with_end : End → Tally → Tally
with_end e t = record t { ended = t.ended + 1; ends = slice_set t.ends (place_of e) (count_at t (place_of e) + 1) }

abbrev pub with_close : ℕ → Option (End × ℕ) → Tally → Tally
with_close release None t = record t { pending = t.pending + 1 }
with_close release (Some e) t = record (with_end e.0 t) { response = Some (at_least (e.1 - release) t.response) }

-- one job more
abbrev pub with_row : JobRow → Tally → Tally
with_row row t = record (with_close row.release row.end t) { delay = Some (at_least row.delay t.delay) }

abbrev pub tally_at : List Tally → ℕ → Tally
tally_at tallies tx = slice_index_or tallies tx no_jobs

abbrev pub with_job : List Tally → JobRow → List Tally
with_job tallies row = slice_set tallies row.job.tx.0 (with_row row (tally_at tallies row.job.tx.0))

-- those of so many transactions
abbrev pub tallied : ℕ → List JobRow → List Tally
tallied n [] = replicate n no_jobs
tallied n (row ∷ rows) = with_job (tallied n rows) row

-- what is kept of these jobs
pub record IsTally (t : Tally) (rows : List JobRow) : Type 0 where
  pub places : length t.ends ≡ 6
  pub ended : t.ended ≡ count_by (row_is (λ e. true)) rows
  pub ends : (place : ℕ) → count_at t place ≡ count_by (ended_at place) rows
  pub pending : t.pending ≡ count_by is_pending rows
  pub response : t.response ≡ worst (responses rows)
  pub delay : t.delay ≡ worst (delays rows)

-- each number has room for one more
pub record FewJobs (t : Tally) : Type 0 where
  pub ended : t.ended + 1 < 2 ^ 64
  pub ends : (place : ℕ) → count_at t place + 1 < 2 ^ 64
  pub pending : t.pending + 1 < 2 ^ 64

-- the lines of a transaction by its tally
abbrev pub tally_lines : Names → Set → Bool → ℕ → Tally → List ℕ
tally_lines names set admitted tx t =
    counts_line names tx t.ended (count_at t) t.pending
    ⊕ worst_line names (codes "response") tx t.response (bound_in admitted (response_of set tx))
    ⊕ worst_line names (codes "delay") tx t.delay (bound_in admitted (blocking set (txn_of set tx).prio))
