-- What is counted over the rows of jobs.
use Rattle.std.proofs.Common.{◌≡◌, ℕ, ◌+◌, Bool, true, false, cond, List, [], ◌∷◌, ◌++◌, map, length, refl, ap, sym, ◌∙◌, arith, append_assoc}
use Rattle.std.specs.List.{count_by, filter}
use Rattle.std.proofs.lemmas.List.Sums.{length-filter}
use Rattle.rt_base.specs.declared.operation.End.{End}
use Rattle.txn_set.specs.Set.{Set}
use Rattle.txn_set.specs.Ceilings.{greatest}
use Rattle.step_journal.specs.declared.entry.Entry.{Entry}
use Rattle.step_journal.specs.declared.entry.EndedJob.{EndedJob}
use Rattle.step_journal.specs.State.{Row, pending}
use Rattle.step_journal.specs.LockRule.{in_falling_priority}
use Rattle.step_journal.specs.History.{state_of}
use Rattle.job_rows.specs.declared.row.JobRow.{JobRow}
use Rattle.job_rows.specs.Rows.{ended_row, pending_row, job_rows}
use Rattle.job_rows.specs.Upkeep.{is_plan}
use Rattle.run_report.specs.declared.counts.Ends.{Ends}
use Rattle.run_report.specs.declared.counts.Kinds.{Kinds}
use Rattle.run_report.specs.Summary.{is_committed, is_overrun, is_late, is_stale, is_quit, is_step, is_block, ended_by, jobs_line, entries_line, last_line, jobs_counted, entries_counted, summary_of}
use Rattle.run_report.specs.Counts.{row_is, AreEnds, AreKinds}

-- a count is that of the first and that of the rest
counted_at : {A : Type 0} (p : A → Bool) (x : A) (xs : List A) (b : Bool) → p x ≡ b
    → length (filter p (x ∷ xs)) ≡ cond (p x) 1 0 + length (filter p xs)
counted_at p x xs true e = rw e (omega arith)
counted_at p x xs false e = rw e (omega arith)

counted_more : {A : Type 0} (p : A → Bool) (x : A) (xs : List A) → count_by p (x ∷ xs) ≡ cond (p x) 1 0 + count_by p xs
counted_more p x xs =
    sym (length-filter p (x ∷ xs)) ∙ counted_at p x xs (p x) refl ∙ ap (λ (n : ℕ). cond (p x) 1 0 + n) (length-filter p xs)

none_ended : (test : End → Bool) (set : Set) (entries : List Entry) (rs : List Row)
    → count_by (row_is test) (map (pending_row set entries) rs) ≡ 0
none_ended test set entries [] = refl
none_ended test set entries (r ∷ rs) =
    omega (arith, counted_more (row_is test) (pending_row set entries r) (map (pending_row set entries) rs), none_ended test set entries rs)

some_ended : (test : End → Bool) (set : Set) (entries : List Entry) (es : List EndedJob) (rest : List JobRow)
    → count_by (row_is test) rest ≡ 0
    → count_by (row_is test) (map (ended_row set entries) es ++ rest) ≡ ended_by test es
some_ended test set entries [] rest h = h
some_ended test set entries (e ∷ es) rest h =
    counted_more (row_is test) (ended_row set entries e) (map (ended_row set entries) es ++ rest)
    ∙ ap (λ (n : ℕ). cond (test e.end) 1 0 + n) (some_ended test set entries es rest h)
    ∙ sym (counted_more (λ (q : EndedJob). test q.end) e es)

-- the rows of ended jobs are counted by their ends
counted_rows : (set : Set) (entries : List Entry) (rows : List JobRow) (test : End → Bool) → rows ≡ job_rows set entries
    → count_by (row_is test) rows ≡ ended_by test (state_of set entries).ended
counted_rows set entries rows test is =
    ap (count_by (row_is test)) is
    ∙ some_ended test set entries (state_of set entries).ended
    (map (pending_row set entries) (in_falling_priority set (pending (state_of set entries).rows)))
    (none_ended test set entries (in_falling_priority set (pending (state_of set entries).rows)))

all_counted : (es : List EndedJob) → ended_by (λ e. true) es ≡ length es
all_counted [] = refl
all_counted (e ∷ es) = omega (arith, all_counted es, counted_more (λ (q : EndedJob). true) e es)

jobs_same : (set : Set) (entries : List Entry) (rows : List JobRow) (c : Ends) → rows ≡ job_rows set entries
    → AreEnds c (λ test. count_by (row_is test) rows)
    → jobs_line c.all c.committed c.overrun c.late c.stale c.quit ≡ jobs_counted (state_of set entries).ended
jobs_same set entries rows c is h =
    let ended : List EndedJob = (state_of set entries).ended in
    let by = counted_rows set entries rows in
    let all : c.all ≡ length ended = h.all ∙ by (λ e. true) is ∙ all_counted ended in
    let committed : c.committed ≡ ended_by is_committed ended = h.committed ∙ by is_committed is in
    let overrun : c.overrun ≡ ended_by is_overrun ended = h.overrun ∙ by is_overrun is in
    let late : c.late ≡ ended_by is_late ended = h.late ∙ by is_late is in
    let stale : c.stale ≡ ended_by is_stale ended = h.stale ∙ by is_stale is in
    let quit : c.quit ≡ ended_by is_quit ended = h.quit ∙ by is_quit is in
    ap (λ (n : ℕ). jobs_line n c.committed c.overrun c.late c.stale c.quit) all
    ∙ ap (λ (n : ℕ). jobs_line (length ended) n c.overrun c.late c.stale c.quit) committed
    ∙ ap (λ (n : ℕ). jobs_line (length ended) (ended_by is_committed ended) n c.late c.stale c.quit) overrun
    ∙ ap (λ (n : ℕ). jobs_line (length ended) (ended_by is_committed ended) (ended_by is_overrun ended) n c.stale c.quit) late
    ∙ ap (λ (n : ℕ). jobs_line (length ended) (ended_by is_committed ended) (ended_by is_overrun ended) (ended_by is_late ended) n c.quit) stale
    ∙ ap (λ (n : ℕ). jobs_line (length ended) (ended_by is_committed ended) (ended_by is_overrun ended) (ended_by is_late ended) (ended_by is_stale ended) n) quit

kinds_same : (entries : List Entry) (all : ℕ) (k : Kinds) → all ≡ length entries → AreKinds k (λ test. count_by test entries)
    → entries_line all k.plans k.steps k.blocks k.idles ≡ entries_counted entries
kinds_same entries all k is h =
    ap (λ (n : ℕ). entries_line n k.plans k.steps k.blocks k.idles) is
    ∙ ap (λ (n : ℕ). entries_line (length entries) n k.steps k.blocks k.idles) h.plans
    ∙ ap (λ (n : ℕ). entries_line (length entries) (count_by is_plan entries) n k.blocks k.idles) h.steps
    ∙ ap (λ (n : ℕ). entries_line (length entries) (count_by is_plan entries) (count_by is_step entries) n k.idles) h.blocks
    ∙ ap (λ (n : ℕ). entries_line (length entries) (count_by is_plan entries) (count_by is_step entries) (count_by is_block entries) n) h.idles

-- the three lines are the summary
pub summed : (set : Set) (entries : List Entry) (rows : List JobRow) (c : Ends) (all : ℕ) (k : Kinds) (now longest : ℕ)
    (begun first second text : List ℕ) → begun ≡ [] → rows ≡ job_rows set entries → AreEnds c (λ test. count_by (row_is test) rows)
    → all ≡ length entries → AreKinds k (λ test. count_by test entries)
    → now ≡ (state_of set entries).now → longest ≡ greatest (map (λ row. row.delay) rows)
    → first ≡ begun ++ jobs_line c.all c.committed c.overrun c.late c.stale c.quit
    → second ≡ first ++ entries_line all k.plans k.steps k.blocks k.idles
    → text ≡ second ++ last_line now longest → text ≡ summary_of set entries
summed set entries rows c all k now longest begun first second text empty rows_are ends all_is kinds now_is longest_is e1 e2 e3 =
    let jobs : List ℕ = jobs_counted (state_of set entries).ended in
    let lines : List ℕ = entries_counted entries in
    let one : first ≡ jobs = e1 ∙ ap (λ (t : List ℕ). t ++ jobs_line c.all c.committed c.overrun c.late c.stale c.quit) empty ∙ jobs_same set entries rows c rows_are ends in
    let two : second ≡ jobs ++ lines = e2 ∙ ap (λ (t : List ℕ). t ++ entries_line all k.plans k.steps k.blocks k.idles) one ∙ ap (λ (t : List ℕ). jobs ++ t) (kinds_same entries all k all_is kinds) in
    let greatest_is : longest ≡ greatest (map (λ row. row.delay) (job_rows set entries)) = longest_is ∙ ap (λ (l : List JobRow). greatest (map (λ row. row.delay) l)) rows_are in
    e3 ∙ ap (λ (t : List ℕ). t ++ last_line now longest) two
    ∙ ap (λ (n : ℕ). (jobs ++ lines) ++ last_line n longest) now_is
    ∙ ap (λ (n : ℕ). (jobs ++ lines) ++ last_line (state_of set entries).now n) greatest_is
    ∙ append_assoc jobs lines (last_line (state_of set entries).now (greatest (map (λ row. row.delay) (job_rows set entries))))
