-- The lines of a report as JSON: each is an object whose one member is named for the first word of the line. What a report
-- writes as `-` is null.
use Rattle.std.specs.Prelude.{ℕ, ℤ, ◌-◌, Bool, List, [], ◌∷◌, codes, decimal, drop, Option, Some, None, if◌then◌else◌}
use Rattle.std.specs.Fmt.{signed_decimal}
use Rattle.rt_base.specs.declared.name.Names.{Names}
use Rattle.rt_base.specs.declared.ids.ItemId.{ItemId}
use Rattle.rt_base.specs.declared.ids.JobId.{JobId}
use Rattle.rt_base.specs.declared.ids.TogetherDecl.{TogetherDecl}
use Rattle.rt_base.specs.declared.operation.Op.{Op}
use Rattle.rt_base.specs.declared.operation.Op.TheVariants.{Read, Write, Compute, Commit, Quit}
use Rattle.rt_base.specs.declared.operation.Outcome.{Outcome}
use Rattle.rt_base.specs.declared.operation.Outcome.TheVariants.{Got}
use Rattle.rt_base.specs.declared.operation.End.{End}
use Rattle.rt_base.specs.declared.operation.End.TheVariants as end
use Rattle.item_model.specs.declared.decl.ItemKind.{ItemKind}
use Rattle.item_model.specs.declared.decl.ItemKind.TheVariants.{Sensor, Derived, State}
use Rattle.item_model.specs.declared.decl.ItemDecl.{ItemDecl}
use Rattle.item_model.specs.declared.stored.Stored.{Stored}
use Rattle.txn_set.specs.declared.decl.TxnDecl.{TxnDecl}
use Rattle.step_journal.specs.declared.entry.Entry.{Entry}
use Rattle.step_journal.specs.declared.entry.Entry.TheVariants.{Planned, Step, Blocked, Idle}
use Rattle.journal_text.specs.Ids.{name_at, job_text}
use Rattle.journal_text.specs.Lines.{◌⊕◌, end_text}
use Rattle.job_rows.specs.declared.row.JobRow.{JobRow}
use Rattle.report_text.specs.Rows.{numbered}
use Rattle.report_text.specs.Texts.{item_name}

-- ---- parts

-- bytes and a number, a signed one, or a name
unfoldable pub counted : List ℕ → ℕ → List ℕ
counted bytes n = bytes ⊕ decimal n

unfoldable pub valued : List ℕ → ℤ → List ℕ
valued bytes value = bytes ⊕ signed_decimal value

unfoldable pub named : List ℕ → List (List ℕ) → ℕ → List ℕ
named bytes names at = bytes ⊕ name_at names at

-- ---- declarations

abbrev pub report_json : Bool → List ℕ
report_json second = if second then codes "{\"report\":{\"version\":2}}\n" else codes "{\"report\":{\"version\":1}}\n"

unfoldable pub kind_json : ItemKind → List ℕ
kind_json (Sensor validity) = counted (codes "\",\"kind\":\"sensor\",\"validity\":") validity
kind_json (Derived validity) = counted (codes "\",\"kind\":\"derived\",\"validity\":") validity
kind_json State = codes "\",\"kind\":\"state\",\"validity\":null"

abbrev pub item_json : Names → ℕ → ItemDecl → List ℕ
item_json names item decl =
    named (codes "{\"item\":{\"name\":\"") names.items item ⊕ kind_json decl.kind
    ⊕ valued (codes ",\"value\":") decl.initial ⊕ codes "}}\n"

-- a name after the first
abbrev pub more_item : Names → ℕ → ItemId → List ℕ
more_item names k item = codes "\",\"" ⊕ item_name names item

abbrev pub items_json : Names → List ItemId → List ℕ
items_json names [] = codes "[]"
items_json names (i ∷ is) = codes "[\"" ⊕ item_name names i ⊕ numbered (more_item names) 1 is ⊕ codes "\"]"

unfoldable pub listed : List ℕ → Names → List ItemId → List ℕ
listed bytes names items = bytes ⊕ items_json names items

unfoldable pub times_json : Names → ℕ → TxnDecl → List ℕ
times_json names tx decl =
    named (codes "{\"txn\":{\"name\":\"") names.txns tx ⊕ counted (codes "\",\"prio\":") decl.prio
    ⊕ counted (codes ",\"period\":") decl.period ⊕ counted (codes ",\"offset\":") decl.offset
    ⊕ counted (codes ",\"deadline\":") decl.deadline ⊕ counted (codes ",\"steps\":") decl.steps
    ⊕ counted (codes ",\"quiet\":") decl.quiet

abbrev pub txn_json : Names → ℕ → TxnDecl → List ℕ
txn_json names tx decl =
    times_json names tx decl ⊕ listed (codes ",\"reads\":") names decl.reads
    ⊕ listed (codes ",\"writes\":") names decl.writes ⊕ codes "}}\n"

abbrev pub together_json : Names → ℕ → TogetherDecl → List ℕ
together_json names place decl =
    counted (codes "{\"together\":{\"within\":") decl.within ⊕ listed (codes ",\"items\":") names decl.items ⊕ codes "}}\n"

abbrev pub mode_json : Bool → List ℕ
mode_json admitted =
    if admitted then codes "{\"mode\":{\"admitted\":true}}\n" else codes "{\"mode\":{\"admitted\":false}}\n"

-- ---- ceilings and bounds

abbrev pub ceiling_json : Names → ℕ → ℕ → ℕ → List ℕ
ceiling_json names item write absolute =
    named (codes "{\"ceiling\":{\"item\":\"") names.items item ⊕ counted (codes "\",\"write\":") write
    ⊕ counted (codes ",\"absolute\":") absolute ⊕ codes "}}\n"

abbrev pub bound_json : Names → ℕ → ℕ → ℕ → List ℕ
bound_json names tx blocking response =
    named (codes "{\"bound\":{\"txn\":\"") names.txns tx ⊕ counted (codes "\",\"blocking\":") blocking
    ⊕ counted (codes ",\"response\":") response ⊕ codes "}}\n"

abbrev pub age_json : Names → ℕ → ℕ → List ℕ
age_json names item age =
    named (codes "{\"age\":{\"item\":\"") names.items item ⊕ counted (codes "\",\"bound\":") age ⊕ codes "}}\n"

-- ---- entries

abbrev pub op_json : Names → Op → List ℕ
op_json names (Read item) = named (codes "{\"read\":\"") names.items item.0 ⊕ codes "\"}"
op_json names (Write item value) =
    named (codes "{\"write\":\"") names.items item.0 ⊕ valued (codes "\",\"value\":") value ⊕ codes "}"
op_json names Compute = codes "\"compute\""
op_json names Commit = codes "\"commit\""
op_json names Quit = codes "\"quit\""

-- the stamp of what a read got; that of a job's own write is null
unfoldable pub stamp_json : Option ℕ → List ℕ
stamp_json (Some stamp) = counted (codes ",\"stamp\":") stamp ⊕ codes "}"
stamp_json None = codes ",\"stamp\":null}"

abbrev pub value_json : Outcome → List ℕ
value_json (Got value stamp) = valued (codes ",\"got\":{\"value\":") value
value_json outcome = []

-- what a read got
abbrev pub got_json : Outcome → List ℕ
got_json (Got value stamp) = value_json (Got value stamp) ⊕ stamp_json stamp
got_json outcome = []

-- an end as a report has it, without the blank before it
abbrev pub end_words : Names → End → List ℕ
end_words names e = drop 1 (end_text names e)

abbrev pub end_json : Names → End → List ℕ
end_json names (end.Stale item stamp) =
    named (codes "{\"stale\":\"") names.items item.0 ⊕ counted (codes "\",\"stamp\":") stamp ⊕ codes "}"
end_json names (end.Apart a b) =
    named (codes "{\"apart\":[\"") names.items a.0 ⊕ named (codes "\",\"") names.items b.0 ⊕ codes "\"]}"
end_json names e = codes "\"" ⊕ end_words names e ⊕ codes "\""

abbrev pub over_json : Names → Option End → List ℕ
over_json names None = []
over_json names (Some e) = codes ",\"end\":" ⊕ end_json names e

-- the job, when, and what it asked for
abbrev pub asked_json : Names → JobId → Op → ℕ → List ℕ
asked_json names job op tick =
    job_text names.txns job ⊕ codes "\",\"tick\":" ⊕ decimal tick ⊕ codes ",\"op\":" ⊕ op_json names op

-- what the job was answered, and how it ended, if it did
abbrev pub answer_json : Names → Outcome → Option End → List ℕ
answer_json names outcome over = got_json outcome ⊕ over_json names over

-- by which job it was refused, and by which ceiling
abbrev pub refusal_json : Names → JobId → ℕ → List ℕ
refusal_json names by ceiling =
    codes ",\"by\":\"" ⊕ job_text names.txns by ⊕ codes "\",\"ceiling\":" ⊕ decimal ceiling

-- an entry, up to what closes its object
abbrev pub entry_body : Names → Entry → List ℕ
entry_body names (Planned tx tick) =
    named (codes "{\"plan\":{\"txn\":\"") names.txns tx.0 ⊕ counted (codes "\",\"tick\":") tick
entry_body names (Step job op outcome over tick) =
    codes "{\"step\":{\"job\":\"" ⊕ asked_json names job op tick ⊕ answer_json names outcome over
entry_body names (Blocked job op by ceiling tick) =
    codes "{\"block\":{\"job\":\"" ⊕ asked_json names job op tick ⊕ refusal_json names by ceiling
entry_body names (Idle from to) = counted (codes "{\"idle\":{\"from\":") from ⊕ counted (codes ",\"to\":") to

abbrev pub entry_json : Names → ℕ → Entry → List ℕ
entry_json names place e = entry_body names e ⊕ codes "}}\n"

-- ---- jobs and last items

abbrev pub close_json : Names → ℕ → Option (End × ℕ) → List ℕ
close_json names release None = codes ",\"tick\":null,\"end\":\"pending\",\"response\":null"
close_json names release (Some e) =
    counted (codes ",\"tick\":") e.1 ⊕ codes ",\"end\":" ⊕ end_json names e.0 ⊕ counted (codes ",\"response\":") (e.1 - release)

abbrev pub by_json : Names → Option JobId → List ℕ
by_json names None = codes ",\"by\":null"
by_json names (Some job) = codes ",\"by\":\"" ⊕ job_text names.txns job ⊕ codes "\""

abbrev pub job_json : Names → ℕ → JobRow → List ℕ
job_json names place row =
    codes "{\"job\":{\"job\":\"" ⊕ job_text names.txns row.job ⊕ counted (codes "\",\"release\":") row.release
    ⊕ close_json names row.release row.end ⊕ by_json names row.delayed_by ⊕ counted (codes ",\"delay\":") row.delay
    ⊕ codes "}}\n"

abbrev pub final_json : Names → ℕ → Stored → List ℕ
final_json names item stored =
    named (codes "{\"final\":{\"item\":\"") names.items item ⊕ valued (codes "\",\"value\":") stored.value
    ⊕ counted (codes ",\"stamp\":") stored.stamp ⊕ codes "}}\n"

abbrev pub last_json : List ℕ
last_json = codes "{\"end\":{}}\n"
