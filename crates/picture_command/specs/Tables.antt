-- The tables of a page: of the transactions, and of the items.
use Rattle.std.specs.Prelude.{ℕ, zero, suc, ◌+◌, ◌-◌, ◌==◌, if◌then◌else◌, List, [], ◌∷◌, ◌++◌, length, map, codes, decimal, Option, None, Some, slice_get}
use Rattle.std.specs.Fmt.{signed_decimal}
use Rattle.rt_base.specs.declared.name.Names.{Names}
use Rattle.rt_base.specs.declared.operation.End.{End}
use Rattle.item_model.specs.declared.decl.ItemDecl.{ItemDecl}
use Rattle.item_model.specs.declared.decl.ItemKind.{ItemKind}
use Rattle.item_model.specs.declared.decl.ItemKind.TheVariants.{Sensor, Derived, State}
use Rattle.item_model.specs.declared.stored.Stored.{Stored}
use Rattle.item_model.specs.Kinds.{validity_of, is_dated}
use Rattle.item_model.specs.Work.{stored_of}
use Rattle.txn_set.specs.Set.{Set, txn_of}
use Rattle.txn_set.specs.Ceilings.{greatest}
use Rattle.job_rows.specs.declared.row.JobRow.{JobRow}
use Rattle.journal_text.specs.Ids.{name_at}
use Rattle.journal_text.specs.Lines.{◌⊕◌}
use Rattle.schedule_marks.specs.Lanes.{commits}

-- ---- cells

abbrev pub cell : List ℕ → List ℕ
cell word = codes "<td>" ⊕ word ⊕ codes "</td>"

abbrev pub number_cell : ℕ → List ℕ
number_cell n = cell (decimal n)

abbrev pub maybe_cell : Option ℕ → List ℕ
maybe_cell None = cell (codes "-")
maybe_cell (Some n) = number_cell n

-- ---- what the jobs of a transaction came to

abbrev pub if_ended : Option (End × ℕ) → ℕ
if_ended None = 0
if_ended (Some e) = 1

abbrev pub if_committed : Option (End × ℕ) → ℕ
if_committed None = 0
if_committed (Some e) = if commits e.0 then 1 else 0

-- from its release to its end; of a pending job nothing is known
abbrev pub time_of : ℕ → Option (End × ℕ) → ℕ
time_of release None = 0
time_of release (Some e) = e.1 - release

-- these of the jobs of one transaction, and 0 of all others
abbrev pub ended_in : ℕ → JobRow → ℕ
ended_in tx row = if row.job.tx.0 == tx then if_ended row.end else 0

abbrev pub committed_in : ℕ → JobRow → ℕ
committed_in tx row = if row.job.tx.0 == tx then if_committed row.end else 0

abbrev pub response_in : ℕ → JobRow → ℕ
response_in tx row = if row.job.tx.0 == tx then time_of row.release row.end else 0

abbrev pub delay_in : ℕ → JobRow → ℕ
delay_in tx row = if row.job.tx.0 == tx then row.delay else 0

abbrev pub total : (JobRow → ℕ) → List JobRow → ℕ
total f [] = 0
total f (row ∷ rows) = f row + total f rows

abbrev pub worst : (JobRow → ℕ) → List JobRow → ℕ
worst f rows = greatest (map f rows)

-- ---- the table of transactions

-- its name and what was declared of it
abbrev pub declared_cells : Names → Set → ℕ → List ℕ
declared_cells names set tx =
    cell (name_at names.txns tx) ⊕ number_cell (txn_of set tx).prio ⊕ number_cell (txn_of set tx).period
    ⊕ number_cell (txn_of set tx).deadline

-- how many of its jobs ended, how many of these committed, the longest response beside the bound, and the longest delay
abbrev pub job_cells : List ℕ → List JobRow → ℕ → List ℕ
job_cells responses rows tx =
    number_cell (total (ended_in tx) rows) ⊕ number_cell (total (committed_in tx) rows)
    ⊕ number_cell (worst (response_in tx) rows) ⊕ maybe_cell (slice_get responses tx) ⊕ number_cell (worst (delay_in tx) rows)

abbrev pub txn_line : Names → Set → List ℕ → List JobRow → ℕ → List ℕ
txn_line names set responses rows tx =
    codes "<tr>" ⊕ declared_cells names set tx ⊕ job_cells responses rows tx ⊕ codes "</tr>\n"

-- the lines of the numbers below one
abbrev pub lines_below : (ℕ → List ℕ) → ℕ → List ℕ
lines_below f zero = []
lines_below f (suc n) = lines_below f n ++ f n

abbrev pub txn_head : List ℕ
txn_head =
    codes "<table>\n<caption>Transactions, in ticks</caption>\n<tr><th>name</th><th>priority</th><th>period</th><th>deadline</th>"
    ⊕ codes "<th>ended</th><th>committed</th><th>worst response</th><th>bound</th><th>worst delay</th></tr>\n"

abbrev pub table_end : List ℕ
table_end = codes "</table>\n"

abbrev pub txn_lines : Names → Set → List ℕ → List JobRow → List ℕ
txn_lines names set responses rows = lines_below (txn_line names set responses rows) (length set.txns)

abbrev pub txn_table : Names → Set → List ℕ → List JobRow → List ℕ
txn_table names set responses rows = txn_head ⊕ txn_lines names set responses rows ⊕ table_end

-- ---- the table of items

abbrev pub kind_word : ItemKind → List ℕ
kind_word (Sensor validity) = codes "sensor"
kind_word (Derived validity) = codes "derived"
kind_word State = codes "state"

abbrev pub kind_of : Option ItemDecl → List ℕ
kind_of None = []
kind_of (Some decl) = kind_word decl.kind

-- the age bound, if the item has a validity and the set was admitted
abbrev pub age_bound_of : Set → List ℕ → ℕ → Option ℕ
age_bound_of set ages item = if is_dated set.items item then slice_get ages item else None

abbrev pub item_cells : Names → Set → List ℕ → ℕ → List ℕ
item_cells names set ages item =
    cell (name_at names.items item) ⊕ cell (kind_of (slice_get set.items item)) ⊕ maybe_cell (validity_of set.items item)
    ⊕ maybe_cell (age_bound_of set ages item)

-- its last value and the stamp of that
abbrev pub value_cells : Stored → List ℕ
value_cells stored = cell (signed_decimal stored.value) ⊕ number_cell stored.stamp

abbrev pub item_line : Names → Set → List ℕ → List Stored → ℕ → List ℕ
item_line names set ages items item =
    codes "<tr>" ⊕ item_cells names set ages item ⊕ value_cells (stored_of items item) ⊕ codes "</tr>\n"

abbrev pub item_head : List ℕ
item_head =
    codes "<table>\n<caption>Items at the end of the run</caption>\n<tr><th>name</th><th>kind</th><th>validity</th><th>age bound</th>"
    ⊕ codes "<th>value</th><th>stamp</th></tr>\n"

abbrev pub item_lines : Names → Set → List ℕ → List Stored → List ℕ
item_lines names set ages items = lines_below (item_line names set ages items) (length set.items)

abbrev pub item_table : Names → Set → List ℕ → List Stored → List ℕ
item_table names set ages items = item_head ⊕ item_lines names set ages items ⊕ table_end
