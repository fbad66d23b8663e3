-- The line of an entry.
use Rattle.std.specs.Prelude.{ℕ, ◌≡◌, ◌<◌, ◌^◌, List, [], ◌++◌, length, codes, decimal, Option, Some, None}
use Rattle.std.specs.List.{flat_map}
use Rattle.std.specs.Fmt.{signed_decimal}
use Rattle.rt_base.specs.declared.name.Names.{Names}
use Rattle.rt_base.specs.declared.ids.ItemId.{ItemId}
use Rattle.rt_base.specs.declared.operation.Op.{Op}
use Rattle.rt_base.specs.declared.operation.Op.TheVariants.{Read, Write, Compute, Commit, Quit}
use Rattle.rt_base.specs.declared.operation.Outcome.{Outcome}
use Rattle.rt_base.specs.declared.operation.Outcome.TheVariants.{Got, Put, Computed, Closed}
use Rattle.rt_base.specs.declared.operation.End.{End}
use Rattle.rt_base.specs.declared.operation.End.TheVariants as end
use Rattle.step_journal.specs.declared.entry.Entry.{Entry}
use Rattle.step_journal.specs.declared.entry.Entry.TheVariants.{Planned, Step, Blocked, Idle}
use Rattle.line_fields.specs.Cuts.{field}
use Rattle.line_fields.specs.Numbers.{IsI64}
use Rattle.journal_text.specs.Ids.{name_at, job_text, IsJob}

-- parts in a row
infixr 10 ◌⊕◌
abbrev pub ◌⊕◌ : List ℕ → List ℕ → List ℕ
a ⊕ b = a ++ b

-- an operation, each field with its blank
abbrev pub op_text : Names → Op → List ℕ
op_text names (Read item) = field (codes "read") ⊕ field (name_at names.items item.0)
op_text names (Write item value) =
    field (codes "write") ⊕ field (name_at names.items item.0) ⊕ field (signed_decimal value)
op_text names Compute = field (codes "compute")
op_text names Commit = field (codes "commit")
op_text names Quit = field (codes "quit")

-- the stamp of a read, or that it was the job's own write
abbrev pub stamp_text : Option ℕ → List ℕ
stamp_text (Some stamp) = decimal stamp
stamp_text None = codes "own"

abbrev pub outcome_text : Outcome → List ℕ
outcome_text (Got value stamp) = field (signed_decimal value) ⊕ field (stamp_text stamp)
outcome_text other = []

-- an end
abbrev pub end_text : Names → End → List ℕ
end_text names end.Committed = field (codes "committed")
end_text names end.Overrun = field (codes "overrun")
end_text names end.Late = field (codes "late")
end_text names (end.Stale item stamp) =
    field (codes "stale") ⊕ field (name_at names.items item.0) ⊕ field (decimal stamp)
end_text names (end.Apart a b) =
    field (codes "apart") ⊕ field (name_at names.items a.0) ⊕ field (name_at names.items b.0)
end_text names end.Quit = field (codes "quit")

abbrev pub over_text : Names → Option End → List ℕ
over_text names None = []
over_text names (Some e) = field (codes "end") ⊕ end_text names e

-- the line of an entry, without its line end
abbrev pub entry_line : Names → Entry → List ℕ
entry_line names (Planned tx tick) = codes "plan" ⊕ field (name_at names.txns tx.0) ⊕ field (decimal tick)
entry_line names (Step job op outcome over tick) =
    codes "step" ⊕ field (job_text names.txns job) ⊕ field (decimal tick) ⊕ op_text names op ⊕ outcome_text outcome
    ⊕ over_text names over
entry_line names (Blocked job op by ceiling tick) =
    codes "block" ⊕ field (job_text names.txns job) ⊕ field (decimal tick) ⊕ op_text names op ⊕ field (codes "by")
    ⊕ field (job_text names.txns by) ⊕ field (decimal ceiling)
entry_line names (Idle from to) = codes "idle" ⊕ field (decimal from) ⊕ field (decimal to)

-- the line with its line end
abbrev pub whole_line : Names → Entry → List ℕ
whole_line names entry = entry_line names entry ++ codes "\n"

-- the lines of entries
abbrev pub whole_lines : Names → List Entry → List ℕ
whole_lines names entries = flat_map (whole_line names) entries

-- ---- which entries have a line

abbrev pub IsItem : Names → ItemId → Type 0
IsItem names item = item.0 < length names.items

abbrev pub IsOp : Names → Op → Type 0
IsOp names (Read item) = IsItem names item
IsOp names (Write item value) = IsItem names item × IsI64 value
IsOp names Compute = Unit {0}
IsOp names Commit = Unit {0}
IsOp names Quit = Unit {0}

-- the outcome answers the operation
abbrev pub Answers : Op → Outcome → Type 0
Answers (Read item) (Got value stamp) = Unit {0}
Answers (Write item value) Put = Unit {0}
Answers Compute Computed = Unit {0}
Answers Commit Closed = Unit {0}
Answers Quit Closed = Unit {0}
Answers op outcome = ⊥

abbrev pub IsStamp : Option ℕ → Type 0
IsStamp (Some stamp) = stamp < 2 ^ 64
IsStamp None = Unit {0}

abbrev pub IsOutcome : Outcome → Type 0
IsOutcome (Got value stamp) = IsI64 value × IsStamp stamp
IsOutcome Put = Unit {0}
IsOutcome Computed = Unit {0}
IsOutcome Closed = Unit {0}

abbrev pub IsEnd : Names → End → Type 0
IsEnd names end.Committed = Unit {0}
IsEnd names end.Overrun = Unit {0}
IsEnd names end.Late = Unit {0}
IsEnd names (end.Stale item stamp) = IsItem names item × (stamp < 2 ^ 64)
IsEnd names (end.Apart a b) = IsItem names a × IsItem names b
IsEnd names end.Quit = Unit {0}

abbrev pub IsOver : Names → Option End → Type 0
IsOver names None = Unit {0}
IsOver names (Some e) = IsEnd names e

-- the outcome fits the operation, the ids are of the names, and the numbers of their types
abbrev pub HasLine : Names → Entry → Type 0
HasLine names (Planned tx tick) = (tx.0 < length names.txns) × (tick < 2 ^ 64)
HasLine names (Step job op outcome over tick) =
    IsJob names.txns job × (tick < 2 ^ 64) × IsOp names op × Answers op outcome × IsOutcome outcome × IsOver names over
HasLine names (Blocked job op by ceiling tick) =
    IsJob names.txns job × (tick < 2 ^ 64) × IsOp names op × IsJob names.txns by × (ceiling < 2 ^ 32)
HasLine names (Idle from to) = (from < 2 ^ 64) × (to < 2 ^ 64)

-- the entry whose line this is, and nothing where it is no entry's
abbrev pub IsEntryOf : Names → List ℕ → Option Entry → Type 0
IsEntryOf names line (Some e) = HasLine names e × (entry_line names e ≡ line)
IsEntryOf names line None = (e : Entry) → HasLine names e → entry_line names e ≡ line → ⊥

-- ---- what may be written: the ids are of the names, and the outcome answers the operation

abbrev pub KnownOp : Names → Op → Type 0
KnownOp names (Read item) = IsItem names item
KnownOp names (Write item value) = IsItem names item
KnownOp names Compute = Unit {0}
KnownOp names Commit = Unit {0}
KnownOp names Quit = Unit {0}

abbrev pub KnownEnd : Names → End → Type 0
KnownEnd names end.Committed = Unit {0}
KnownEnd names end.Overrun = Unit {0}
KnownEnd names end.Late = Unit {0}
KnownEnd names (end.Stale item stamp) = IsItem names item
KnownEnd names (end.Apart a b) = IsItem names a × IsItem names b
KnownEnd names end.Quit = Unit {0}

abbrev pub KnownOver : Names → Option End → Type 0
KnownOver names None = Unit {0}
KnownOver names (Some e) = KnownEnd names e

abbrev pub IsWritable : Names → Entry → Type 0
IsWritable names (Planned tx tick) = tx.0 < length names.txns
IsWritable names (Step job op outcome over tick) =
    (job.tx.0 < length names.txns) × KnownOp names op × Answers op outcome × KnownOver names over
IsWritable names (Blocked job op by ceiling tick) =
    (job.tx.0 < length names.txns) × KnownOp names op × (by.tx.0 < length names.txns)
IsWritable names (Idle from to) = Unit {0}
