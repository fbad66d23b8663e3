-- A report as JSON lines, and its jobs as a table.
use Rattle.std.specs.Prelude.{ℕ, Bool, List, [], if◌then◌else◌}
use Rattle.rt_base.specs.declared.name.Names.{Names}
use Rattle.item_model.specs.declared.decl.ItemDecl.{ItemDecl}
use Rattle.item_model.specs.declared.stored.Stored.{Stored}
use Rattle.item_model.specs.Kinds.{is_dated}
use Rattle.txn_set.specs.declared.decl.TxnDecl.{TxnDecl}
use Rattle.txn_set.specs.Set.{Set}
use Rattle.txn_set.specs.Ceilings.{write_ceiling, absolute_ceiling, blocking}
use Rattle.step_journal.specs.declared.entry.Entry.{Entry}
use Rattle.step_journal.specs.History.{state_of}
use Rattle.set_admission.specs.Bounds.{response_of, age_of}
use Rattle.journal_text.specs.Lines.{◌⊕◌}
use Rattle.job_rows.specs.declared.row.JobRow.{JobRow}
use Rattle.job_rows.specs.Rows.{job_rows}
use Rattle.report_text.specs.Rows.{numbered}
use Rattle.report_text.specs.Texts.{is_second}
use Rattle.report_export.specs.Json.{report_json, item_json, txn_json, together_json, mode_json, ceiling_json, bound_json, age_json, entry_json, job_json, final_json, last_json}
use Rattle.report_export.specs.Table.{table_with}

abbrev pub declared_json : Names → Set → Bool → List ℕ
declared_json names set admitted =
    report_json (is_second set) ⊕ numbered (item_json names) 0 set.items ⊕ numbered (txn_json names) 0 set.txns
    ⊕ numbered (together_json names) 0 set.together ⊕ mode_json admitted

abbrev pub ceilings_json : Names → Set → ℕ → ItemDecl → List ℕ
ceilings_json names set item decl = ceiling_json names item (write_ceiling set item) (absolute_ceiling set item)

abbrev pub bounds_json : Names → Set → ℕ → TxnDecl → List ℕ
bounds_json names set tx decl = bound_json names tx (blocking set decl.prio) (response_of set tx)

-- the age bound of an item, if it is a sensor or derived item
abbrev pub age_of_item : Names → Set → ℕ → List ℕ
age_of_item names set item = if is_dated set.items item then age_json names item (age_of set item) else []

abbrev pub ages_json : Names → Set → ℕ → ItemDecl → List ℕ
ages_json names set item decl = age_of_item names set item

-- bounds and ages, if the set is admitted
abbrev pub limits_json : Bool → Names → Set → List ℕ
limits_json admitted names set =
    if admitted then (numbered (bounds_json names set) 0 set.txns ⊕ numbered (ages_json names set) 0 set.items) else []

abbrev pub opening_json : Names → Set → Bool → List ℕ
opening_json names set admitted =
    declared_json names set admitted ⊕ numbered (ceilings_json names set) 0 set.items ⊕ limits_json admitted names set

abbrev pub closing_json : Names → List JobRow → List Stored → List ℕ
closing_json names rows items = numbered (job_json names) 0 rows ⊕ numbered (final_json names) 0 items ⊕ last_json

-- the lines of the report of a set, its mode and its entries (`report_of`), each as JSON
abbrev pub json_of : Names → Set → Bool → List Entry → List ℕ
json_of names set admitted entries =
    opening_json names set admitted ⊕ numbered (entry_json names) 0 entries
    ⊕ closing_json names (job_rows set entries) (state_of set entries).items

-- the table of the jobs of a history
abbrev pub table_of : Names → Set → List Entry → List ℕ
table_of names set entries = table_with names (job_rows set entries)
