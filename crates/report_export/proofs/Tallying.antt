-- What is kept of the jobs of each transaction is what they come to.
use Rattle.std.proofs.Common.{◌≡◌, ◌≢◌, ℕ, ◌+◌, ◌-◌, ◌<◌, ◌≤◌, ◌^◌, Bool, true, false, cond, List, [], ◌∷◌, length, set, get_or, Option, None, Some, refl, sym, ap, subst, ◌∙◌, arith}
use Rattle.std.specs.Prelude.{◌==◌}
use Rattle.std.specs.List.{All, count_by}
use Rattle.std.proofs.lemmas.Bool.{eqb-true, eqb-false}
use Rattle.std.proofs.lemmas.List.{length-set, length-replicate, get_or-set_same, get_or-set_other}
use Rattle.std.proofs.lemmas.List.Elements.{All-head, All-tail}
use Rattle.std.proofs.lemmas.List.Sums.{sum_by-cons, length-filter, count_by-le-length}
use Rattle.rt_base.specs.declared.ids.JobId.{JobId}
use Rattle.rt_base.specs.declared.operation.End.{End}
use Rattle.rt_base.specs.declared.operation.End.TheVariants as end
use Rattle.job_rows.specs.declared.row.JobRow.{JobRow}
use Rattle.run_report.specs.Counts.{row_is}
use Rattle.report_export.specs.declared.tally.Tally.{Tally}
use Rattle.report_export.specs.Worsts.{at_least, jobs_of, place_of, ended_at, is_pending}
use Rattle.report_export.specs.Tallies.{no_jobs, count_at, with_row, tally_at, with_job, tallied, IsTally, FewJobs}
use Rattle.report_export.proofs.Aging.{filled, Below}

-- ---- one job more

count_more : (p : JobRow → Bool) (row : JobRow) (rows : List JobRow) (b : Bool) → p row ≡ b
    → count_by p (row ∷ rows) ≡ cond {A = ℕ} b 1 0 + count_by p rows
count_more p row rows b e =
    sum_by-cons (λ (x : JobRow). cond {A = ℕ} (p x) 1 0) row rows ∙ ap (λ (c : Bool). cond {A = ℕ} c 1 0 + count_by p rows) e

place_few : (e : End) → place_of e < 6
place_few end.Committed = omega arith
place_few e = omega arith

-- one more at a place of a list of numbers
more_at : (ns : List ℕ) (at place : ℕ) (b : Bool) → (at == place) ≡ b → at < length ns
    → get_or (set ns at (get_or ns at 0 + 1)) place 0 ≡ cond {A = ℕ} b 1 0 + get_or ns place 0
more_at ns at place true e lt =
    let here : get_or (set ns at (get_or ns at 0 + 1)) at 0 ≡ get_or ns at 0 + 1 = get_or-set_same ns at (get_or ns at 0 + 1) 0 lt in
    subst (λ (k : ℕ). get_or (set ns at (get_or ns at 0 + 1)) k 0 ≡ 1 + get_or ns k 0) (eqb-true at place e) (omega (arith, here))
more_at ns at place false e lt =
    omega (arith, get_or-set_other ns at place (get_or ns at 0 + 1) 0 (λ same. eqb-false at place e (sym same)))

abbrev row_at : JobId → ℕ → Option (End × ℕ) → Option JobId → ℕ → JobRow
row_at job release end by delay = record { job = job; release = release; end = end; delayed_by = by; delay = delay }

abbrev OneMore : Option (End × ℕ) → Type 0
OneMore close =
    (job : JobId) (release : ℕ) (by : Option JobId) (delay : ℕ) (t : Tally) (rows : List JobRow) → IsTally t rows
    → IsTally (with_row (row_at job release close by delay) t) (row_at job release close by delay ∷ rows)

one_end : (e : End) (tick : ℕ) → OneMore (Some (e, tick))
one_end e tick job release by delay t rows h =
    let row : JobRow = row_at job release (Some (e, tick)) by delay in
    let at : ℕ = place_of e in
    let lt : at < length t.ends = omega (arith, place_few e, h.places) in
    record {
      places = length-set t.ends at (count_at t at + 1) ∙ h.places;
      ended = omega (arith, h.ended, count_more (row_is (λ e. true)) row rows true refl);
      ends = λ place. omega (arith, more_at t.ends at place (at == place) refl lt, h.ends place, count_more (ended_at place) row rows (at == place) refl);
      pending = omega (arith, h.pending, count_more is_pending row rows false refl);
      response = ap (λ (o : Option ℕ). Some (at_least (tick - release) o)) h.response;
      delay = ap (λ (o : Option ℕ). Some (at_least delay o)) h.delay;
    }

one_pending : OneMore None
one_pending job release by delay t rows h =
    let row : JobRow = row_at job release None by delay in
    record {
      places = h.places;
      ended = omega (arith, h.ended, count_more (row_is (λ e. true)) row rows false refl);
      ends = λ place. omega (arith, h.ends place, count_more (ended_at place) row rows false refl);
      pending = omega (arith, h.pending, count_more is_pending row rows true refl);
      response = h.response;
      delay = ap (λ (o : Option ℕ). Some (at_least delay o)) h.delay;
    }

one_close : (c : Option (End × ℕ)) → OneMore c
one_close None = one_pending
one_close (Some e) = one_end e.0 e.1

one_row : (row : JobRow) (t : Tally) (rows : List JobRow) → IsTally t rows → IsTally (with_row row t) (row ∷ rows)
one_row row t rows h = one_close row.end row.job row.release row.delayed_by row.delay t rows h

-- ---- all

pub tallied_length : (n : ℕ) (rows : List JobRow) → length (tallied n rows) ≡ n
tallied_length n [] = length-replicate n no_jobs
tallied_length n (row ∷ rows) =
    length-set (tallied n rows) row.job.tx.0 (with_row row (tally_at (tallied n rows) row.job.tx.0)) ∙ tallied_length n rows

step : (n : ℕ) (row : JobRow) (rows : List JobRow) (tx : ℕ) (b : Bool) → (row.job.tx.0 == tx) ≡ b → row.job.tx.0 < n
    → IsTally (tally_at (tallied n rows) tx) (jobs_of tx rows)
    → IsTally (tally_at (with_job (tallied n rows) row) tx) (cond b (row ∷ jobs_of tx rows) (jobs_of tx rows))
step n row rows tx true e lt h =
    let ts : List Tally = tallied n rows in
    let at : ℕ = row.job.tx.0 in
    let same : tx ≡ at = sym (eqb-true at tx e) in
    let here : IsTally (tally_at ts at) (jobs_of tx rows) = subst (λ (k : ℕ). IsTally (tally_at ts k) (jobs_of tx rows)) same h in
    let in_range : at < length ts = omega (arith, lt, tallied_length n rows) in
    let is : tally_at (with_job ts row) at ≡ with_row row (tally_at ts at) = get_or-set_same ts at (with_row row (tally_at ts at)) no_jobs in_range in
    subst (λ (k : ℕ). IsTally (tally_at (with_job ts row) k) (row ∷ jobs_of tx rows)) (sym same)
    (subst (λ (t : Tally). IsTally t (row ∷ jobs_of tx rows)) (sym is) (one_row row (tally_at ts at) (jobs_of tx rows) here))
step n row rows tx false e lt h =
    let ts : List Tally = tallied n rows in
    let at : ℕ = row.job.tx.0 in
    let apart : tx ≢ at = λ same. eqb-false at tx e (sym same) in
    let is : tally_at (with_job ts row) tx ≡ tally_at ts tx = get_or-set_other ts at tx (with_row row (tally_at ts at)) no_jobs apart in
    subst (λ (t : Tally). IsTally t (jobs_of tx rows)) (sym is) h

no_jobs_tallied : IsTally no_jobs []
no_jobs_tallied = record {
  places = refl;
  ended = refl;
  ends = λ place. filled 6 place 0;
  pending = refl;
  response = refl;
  delay = refl;
}

pub are_tallied : (n : ℕ) (rows : List JobRow) (tx : ℕ) → tx < n → All (Below n) rows
    → IsTally (tally_at (tallied n rows) tx) (jobs_of tx rows)
are_tallied n [] tx lt all = subst (λ (t : Tally). IsTally t []) (sym (filled n tx no_jobs)) no_jobs_tallied
are_tallied n (row ∷ rows) tx lt all =
    step n row rows tx (row.job.tx.0 == tx) refl (All-head (Below n) row rows all)
    (are_tallied n rows tx lt (All-tail (Below n) row rows all))

-- ---- the numbers have room

jobs_le : (tx : ℕ) (rows : List JobRow) → length (jobs_of tx rows) ≤ length rows
jobs_le tx rows =
    omega (arith, length-filter (λ (r : JobRow). r.job.tx.0 == tx) rows, count_by-le-length (λ (r : JobRow). r.job.tx.0 == tx) rows)

few : (t : Tally) (rows : List JobRow) (m : ℕ) → IsTally t rows → length rows ≤ m → m + 1 < 2 ^ 64 → FewJobs t
few t rows m h le lt = record {
  ended = omega (arith, h.ended, count_by-le-length (row_is (λ e. true)) rows, le, lt);
  ends = λ place. omega (arith, h.ends place, count_by-le-length (ended_at place) rows, le, lt);
  pending = omega (arith, h.pending, count_by-le-length is_pending rows, le, lt);
}

pub few_jobs : (n : ℕ) (rows : List JobRow) (tx : ℕ) → tx < n → All (Below n) rows → length rows + 1 < 2 ^ 64
    → FewJobs (tally_at (tallied n rows) tx)
few_jobs n rows tx lt all short =
    few (tally_at (tallied n rows) tx) (jobs_of tx rows) (length rows) (are_tallied n rows tx lt all) (jobs_le tx rows) short
