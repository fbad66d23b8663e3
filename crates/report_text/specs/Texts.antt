-- The lines of a report.
use Rattle.std.specs.Prelude.{ℕ, ◌≡◌, ◌<◌, ◌≤◌, ◌-◌, ◌==◌, Bool, ◌||◌, not, List, [], ◌∷◌, length, codes, decimal, Option, Some, None, if◌then◌else◌}
use Rattle.std.specs.List.{list_any}
use Rattle.std.specs.Fmt.{signed_decimal}
use Rattle.rt_base.specs.declared.name.Names.{Names}
use Rattle.rt_base.specs.declared.ids.ItemId.{ItemId}
use Rattle.rt_base.specs.declared.ids.JobId.{JobId}
use Rattle.rt_base.specs.declared.ids.TogetherDecl.{TogetherDecl}
use Rattle.rt_base.specs.declared.operation.End.{End}
use Rattle.item_model.specs.declared.decl.ItemKind.{ItemKind}
use Rattle.item_model.specs.declared.decl.ItemKind.TheVariants.{Sensor, Derived, State}
use Rattle.item_model.specs.declared.decl.ItemDecl.{ItemDecl}
use Rattle.item_model.specs.declared.stored.Stored.{Stored}
use Rattle.txn_set.specs.declared.decl.TxnDecl.{TxnDecl}
use Rattle.txn_set.specs.Set.{Set}
use Rattle.txn_set.specs.Ceilings.{write_ceiling, absolute_ceiling}
use Rattle.step_journal.specs.declared.entry.Entry.{Entry}
use Rattle.line_fields.specs.Cuts.{field}
use Rattle.journal_text.specs.Ids.{name_at, job_text}
use Rattle.journal_text.specs.Lines.{◌⊕◌, end_text, entry_line, KnownEnd}
use Rattle.job_rows.specs.declared.row.JobRow.{JobRow}
use Rattle.report_text.specs.Rows.{numbered}

abbrev pub line_end : List ℕ
line_end = codes "\n"

-- ---- declarations

abbrev pub item_name : Names → ItemId → List ℕ
item_name names item = name_at names.items item.0

-- a name after the first
abbrev pub more_name : Names → ℕ → ItemId → List ℕ
more_name names k item = codes "," ⊕ item_name names item

-- a list of items: `-`, or the names with single commas between them
abbrev pub list_text : Names → List ItemId → List ℕ
list_text names [] = codes "-"
list_text names (i ∷ is) = item_name names i ⊕ numbered (more_name names) 1 is

abbrev pub kind_text : ItemKind → List ℕ
kind_text (Sensor validity) = field (codes "sensor") ⊕ field (decimal validity)
kind_text (Derived validity) = field (codes "derived") ⊕ field (decimal validity)
kind_text State = field (codes "state") ⊕ field (codes "-")

abbrev pub item_line : Names → ℕ → ItemDecl → List ℕ
item_line names item decl =
    codes "item" ⊕ field (name_at names.items item) ⊕ kind_text decl.kind ⊕ field (signed_decimal decl.initial)
    ⊕ line_end

-- the quiet steps, in the second version alone
abbrev pub quiet_text : Bool → ℕ → List ℕ
quiet_text second quiet = if second then (field (codes "quiet") ⊕ field (decimal quiet)) else []

abbrev pub numbers_text : Names → ℕ → TxnDecl → List ℕ
numbers_text names tx decl =
    codes "txn" ⊕ field (name_at names.txns tx) ⊕ field (decimal decl.prio) ⊕ field (decimal decl.period)
    ⊕ field (decimal decl.offset) ⊕ field (decimal decl.deadline) ⊕ field (decimal decl.steps)

abbrev pub txn_line : Bool → Names → ℕ → TxnDecl → List ℕ
txn_line second names tx decl =
    numbers_text names tx decl ⊕ field (codes "reads") ⊕ field (list_text names decl.reads)
    ⊕ field (codes "writes") ⊕ field (list_text names decl.writes) ⊕ quiet_text second decl.quiet ⊕ line_end

abbrev pub within_text : ℕ → List ℕ
within_text within = codes "together" ⊕ field (decimal within)

abbrev pub together_line : Names → ℕ → TogetherDecl → List ℕ
together_line names place decl = within_text decl.within ⊕ field (list_text names decl.items) ⊕ line_end

-- a set with quiet steps or relative sets is reported in the second version
abbrev pub is_second : Set → Bool
is_second set = list_any (λ t. not (t.quiet == 0)) set.txns || not (length set.together == 0)

abbrev pub first_line : Bool → List ℕ
first_line second = if second then codes "rtdb report 2\n" else codes "rtdb report 1\n"

abbrev pub mode_line : Bool → List ℕ
mode_line admitted = if admitted then codes "mode admitted\n" else codes "mode trial\n"

-- the declarations of a set by version, up to the mode line
abbrev pub declared_text : Bool → Names → Set → Bool → List ℕ
declared_text second names set admitted =
    first_line second ⊕ numbered (item_line names) 0 set.items ⊕ numbered (txn_line second names) 0 set.txns
    ⊕ numbered (together_line names) 0 set.together ⊕ mode_line admitted

abbrev pub declarations : Names → Set → Bool → List ℕ
declarations names set admitted = declared_text (is_second set) names set admitted

-- ---- ceilings and bounds

abbrev pub ceiling_line : Names → ℕ → ℕ → ℕ → List ℕ
ceiling_line names item write absolute =
    codes "ceiling" ⊕ field (name_at names.items item) ⊕ field (decimal write) ⊕ field (decimal absolute) ⊕ line_end

-- the ceilings of each item, in item order
abbrev pub ceilings_line : Names → Set → ℕ → ItemDecl → List ℕ
ceilings_line names set item decl = ceiling_line names item (write_ceiling set item) (absolute_ceiling set item)

abbrev pub ceilings_of : Names → Set → List ℕ
ceilings_of names set = numbered (ceilings_line names set) 0 set.items

abbrev pub bound_line : Names → ℕ → ℕ → ℕ → List ℕ
bound_line names tx blocking response =
    codes "bound" ⊕ field (name_at names.txns tx) ⊕ field (decimal blocking) ⊕ field (decimal response) ⊕ line_end

abbrev pub age_line : Names → ℕ → ℕ → List ℕ
age_line names item age = codes "age" ⊕ field (name_at names.items item) ⊕ field (decimal age) ⊕ line_end

-- ---- entries, jobs and last items

abbrev pub whole_entry_line : Names → ℕ → Entry → List ℕ
whole_entry_line names place e = entry_line names e ⊕ line_end

abbrev pub entries_text : Names → List Entry → List ℕ
entries_text names entries = numbered (whole_entry_line names) 0 entries

abbrev pub by_text : Names → Option JobId → List ℕ
by_text names None = codes "-"
by_text names (Some job) = job_text names.txns job

-- the tick at which a job ended, its end and its response; or that it is pending
abbrev pub close_text : Names → ℕ → Option (End × ℕ) → List ℕ
close_text names release None = field (codes "-") ⊕ field (codes "pending") ⊕ field (codes "-")
close_text names release (Some e) = field (decimal e.1) ⊕ end_text names e.0 ⊕ field (decimal (e.1 - release))

abbrev pub job_line : Names → ℕ → JobRow → List ℕ
job_line names place row =
    codes "job" ⊕ field (job_text names.txns row.job) ⊕ field (decimal row.release)
    ⊕ close_text names row.release row.end ⊕ field (by_text names row.delayed_by) ⊕ field (decimal row.delay) ⊕ line_end

abbrev pub jobs_text : Names → List JobRow → List ℕ
jobs_text names rows = numbered (job_line names) 0 rows

abbrev pub final_line : Names → ℕ → Stored → List ℕ
final_line names item stored =
    codes "final" ⊕ field (name_at names.items item) ⊕ field (signed_decimal stored.value)
    ⊕ field (decimal stored.stamp) ⊕ line_end

abbrev pub finals_text : Names → List Stored → List ℕ
finals_text names items = numbered (final_line names) 0 items

-- ---- what may be written

-- one name for each item and each transaction of the set
pub record NamesSet (names : Names) (set : Set) : Type 0 where
  pub items : length names.items ≡ length set.items
  pub txns : length names.txns ≡ length set.txns

abbrev pub KnownBy : Names → Option JobId → Type 0
KnownBy names None = Unit {0}
KnownBy names (Some job) = job.tx.0 < length names.txns

abbrev pub KnownClose : Names → Option (End × ℕ) → Type 0
KnownClose names None = Unit {0}
KnownClose names (Some e) = KnownEnd names e.0

-- the ids are of the names, and a job ends at its release or later
pub record KnownRow (names : Names) (row : JobRow) : Type 0 where
  pub job : row.job.tx.0 < length names.txns
  pub close : KnownClose names row.end
  pub after : (e : End) (tick : ℕ) → row.end ≡ Some (e, tick) → row.release ≤ tick
  pub by : KnownBy names row.delayed_by
