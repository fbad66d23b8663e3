-- The lines of a summary.
use Rattle.std.specs.Prelude.{ℕ, Bool, true, List, [], codes, decimal, Option, None, Some, if◌then◌else◌}
use Rattle.std.specs.List.{count_by}
use Rattle.rt_base.specs.declared.name.Names.{Names}
use Rattle.item_model.specs.declared.decl.ItemDecl.{ItemDecl}
use Rattle.item_model.specs.Kinds.{validity_of}
use Rattle.txn_set.specs.declared.decl.TxnDecl.{TxnDecl}
use Rattle.txn_set.specs.Set.{Set}
use Rattle.txn_set.specs.Ceilings.{blocking}
use Rattle.step_journal.specs.declared.entry.Entry.{Entry}
use Rattle.line_fields.specs.Cuts.{field}
use Rattle.journal_text.specs.Ids.{name_at}
use Rattle.job_rows.specs.declared.row.JobRow.{JobRow}
use Rattle.job_rows.specs.Rows.{job_rows}
use Rattle.journal_text.specs.Lines.{◌⊕◌}
use Rattle.report_text.specs.Rows.{numbered}
use Rattle.report_text.specs.Texts.{line_end}
use Rattle.set_admission.specs.Bounds.{response_of, age_of}
use Rattle.run_report.specs.Summary.{counted}
use Rattle.run_report.specs.Counts.{row_is}
use Rattle.report_export.specs.Worsts.{worst, jobs_of, ended_at, is_pending, responses, delays, ages}

-- a number, or `-` where there is none
abbrev pub number_text : Option ℕ → List ℕ
number_text None = codes "-"
number_text (Some n) = decimal n

-- how many jobs ended, and so many of them by the place of their end
abbrev pub ended_text : ℕ → (ℕ → ℕ) → List ℕ
ended_text all so =
    counted (codes "jobs") all ⊕ counted (codes "committed") (so 0) ⊕ counted (codes "stale") (so 1)
    ⊕ counted (codes "apart") (so 2)

-- so many otherwise, and how many are pending
abbrev pub others_text : (ℕ → ℕ) → ℕ → List ℕ
others_text so pending =
    counted (codes "overrun") (so 3) ⊕ counted (codes "late") (so 4) ⊕ counted (codes "quit") (so 5)
    ⊕ counted (codes "pending") pending

abbrev pub counts_line : Names → ℕ → ℕ → (ℕ → ℕ) → ℕ → List ℕ
counts_line names tx all so pending =
    codes "txn" ⊕ field (name_at names.txns tx) ⊕ ended_text all so ⊕ others_text so pending ⊕ line_end

-- of these jobs
abbrev pub jobs_counted : Names → ℕ → List JobRow → List ℕ
jobs_counted names tx rows =
    counts_line names tx (count_by (row_is (λ e. true)) rows) (λ place. count_by (ended_at place) rows) (count_by is_pending rows)

-- the worst of something, beside its bound
abbrev pub worst_line : Names → List ℕ → ℕ → Option ℕ → Option ℕ → List ℕ
worst_line names word tx found bound =
    word ⊕ field (name_at names.txns tx) ⊕ field (number_text found) ⊕ field (number_text bound) ⊕ line_end

-- a bound, which only an admitted set has
abbrev pub bound_in : Bool → ℕ → Option ℕ
bound_in admitted bound = if admitted then Some bound else None

-- the lines of a transaction: its jobs, the worst response and the response, the worst delay and the blocking
abbrev pub txn_lines : Names → Set → Bool → List JobRow → ℕ → TxnDecl → List ℕ
txn_lines names set admitted rows tx decl =
    jobs_counted names tx (jobs_of tx rows)
    ⊕ worst_line names (codes "response") tx (worst (responses (jobs_of tx rows))) (bound_in admitted (response_of set tx))
    ⊕ worst_line names (codes "delay") tx (worst (delays (jobs_of tx rows))) (bound_in admitted (blocking set decl.prio))

abbrev pub age_line : Names → ℕ → ℕ → Option ℕ → ℕ → List ℕ
age_line names item found bound validity =
    codes "age" ⊕ field (name_at names.items item) ⊕ field (decimal found) ⊕ field (number_text bound)
    ⊕ field (decimal validity) ⊕ line_end

-- the line of an item with a validity, of which a read by a committed job has an age
abbrev pub age_text : Names → ℕ → Option ℕ → Option ℕ → Option ℕ → List ℕ
age_text names item None bound validity = []
age_text names item (Some found) bound None = []
age_text names item (Some found) bound (Some validity) = age_line names item found bound validity

abbrev pub item_lines : Names → Set → Bool → List JobRow → List Entry → ℕ → ItemDecl → List ℕ
item_lines names set admitted rows entries item decl =
    age_text names item (worst (ages rows item entries)) (bound_in admitted (age_of set item)) (validity_of set.items item)

abbrev pub summary_with : Names → Set → Bool → List JobRow → List Entry → List ℕ
summary_with names set admitted rows entries =
    numbered (txn_lines names set admitted rows) 0 set.txns ⊕ numbered (item_lines names set admitted rows entries) 0 set.items

-- the summary of a history: of each transaction by the rows of its jobs, then of each item
abbrev pub summary_of : Names → Set → Bool → List Entry → List ℕ
summary_of names set admitted entries = summary_with names set admitted (job_rows set entries) entries
