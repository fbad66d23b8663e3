-- Which numbers of a set and of its entries no rule bounds.
use Rattle.std.specs.Prelude.{◌<◌, ◌^◌, List}
use Rattle.std.specs.List.{All}
use Rattle.rt_base.specs.declared.operation.Op.{Op}
use Rattle.rt_base.specs.declared.operation.Op.TheVariants.{Read, Write, Compute, Commit, Quit}
use Rattle.txn_set.specs.Set.{Set}
use Rattle.step_journal.specs.declared.entry.Entry.{Entry}
use Rattle.step_journal.specs.declared.entry.Entry.TheVariants.{Planned, Step, Blocked, Idle}
use Rattle.line_fields.specs.Numbers.{IsI64}
use Rattle.report_text.specs.Laws.{IsItemDecl}

-- a value that is written
abbrev pub HasValue : Op → Type 0
HasValue (Read item) = Unit {0}
HasValue (Write item value) = IsI64 value
HasValue Compute = Unit {0}
HasValue Commit = Unit {0}
HasValue Quit = Unit {0}

abbrev pub EntryHasValue : Entry → Type 0
EntryHasValue (Planned tx tick) = Unit {0}
EntryHasValue (Step job op outcome over tick) = HasValue op
EntryHasValue (Blocked job op by ceiling tick) = HasValue op
EntryHasValue (Idle from to) = Unit {0}

-- The numbers that no rule of sets and histories bounds are those of their types: validities and intervals below 2^64,
-- and values from -2^63 to 2^63 - 1. A line has no others. All other numbers of a report are bounded by the rules: ticks,
-- serials, stamps, values that are read, ceilings, bounds and ages.
pub record HasTypes (set : Set) (entries : List Entry) : Type 0 where
  pub items : All IsItemDecl set.items
  pub within : All (λ g. g.within < 2 ^ 64) set.together
  pub values : All EntryHasValue entries
