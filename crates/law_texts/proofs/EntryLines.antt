-- The lines of entries are short.
use Rattle.std.proofs.Common.{ℕ, ◌+◌, ◌≤◌, Bool, List, length, Option, Some, None, arith, length-append}
use Rattle.std.specs.List.{All}
use Rattle.rt_base.specs.Names.{AreNames}
use Rattle.rt_base.specs.declared.ids.JobId.{JobId}
use Rattle.rt_base.specs.declared.name.Names.{Names}
use Rattle.rt_base.specs.declared.operation.Op.{Op}
use Rattle.rt_base.specs.declared.operation.Op.TheVariants.{Read, Write, Compute, Commit, Quit}
use Rattle.rt_base.specs.declared.operation.Outcome.{Outcome}
use Rattle.rt_base.specs.declared.operation.Outcome.TheVariants.{Got, Put, Computed, Closed}
use Rattle.rt_base.specs.declared.operation.End.{End}
use Rattle.rt_base.specs.declared.operation.End.TheVariants as end
use Rattle.txn_set.specs.Set.{Set, IsCompiled}
use Rattle.step_journal.specs.declared.entry.Entry.{Entry}
use Rattle.step_journal.specs.declared.entry.Entry.TheVariants.{Planned, Step, Blocked, Idle}
use Rattle.step_journal.specs.History.{IsLegal}
use Rattle.law_histories.proofs.Lists.{all_from}
use Rattle.journal_text.proofs.IdLaws.{short_length, signed_length, unsigned_length}
use Rattle.journal_text.specs.Lines.{op_text, outcome_text, end_text, over_text, IsOutcome}
use Rattle.report_text.specs.Texts.{is_second, whole_entry_line}
use Rattle.run_report.specs.Types.{HasValue}
use Rattle.run_report.proofs.Every.{every_in}
use Rattle.run_report.proofs.Fits.{EndFits}
use Rattle.run_report.proofs.Steps.{OverFits, EntryFits, HistoryFits}
use Rattle.law_texts.specs.Lines.{IsShort}
use Rattle.law_texts.proofs.Lengths.{name_length}
use Rattle.law_texts.proofs.Ends.{IsPlain, EndsWell, each_ends_well}

-- ---- parts of a line

outcome_length : (outcome : Outcome) → IsOutcome outcome → length (outcome_text outcome) ≤ 42
outcome_length (Got value (Some stamp)) fits =
    simp length-append (omega (arith, signed_length value fits.0, unsigned_length stamp fits.1))
outcome_length (Got value None) fits = simp length-append (omega (arith, signed_length value fits.0))
outcome_length Put fits = omega arith
outcome_length Computed fits = omega arith
outcome_length Closed fits = omega arith

pub end_length : (names : Names) (second : Bool) (e : End) → AreNames names.items → EndFits second e
    → length (end_text names e) ≤ 72
end_length names second end.Committed good fits = omega arith
end_length names second end.Overrun good fits = omega arith
end_length names second end.Late good fits = omega arith
end_length names second (end.Stale item stamp) good fits =
    simp length-append (omega (arith, name_length names.items item.0 good, unsigned_length stamp fits))
end_length names second (end.Apart a b) good fits =
    simp length-append (omega (arith, name_length names.items a.0 good, name_length names.items b.0 good))
end_length names second end.Quit good fits = omega arith

over_length : (names : Names) (second : Bool) (over : Option End) → AreNames names.items → OverFits second over
    → length (over_text names over) ≤ 76
over_length names second None good fits = omega arith
over_length names second (Some e) good fits = simp length-append (omega (arith, end_length names second e good fits))

plain_length : (names : Names) (over : Option End) → IsPlain over → length (over_text names over) ≤ 14
plain_length names None plain = omega arith
plain_length names (Some end.Committed) plain = omega arith
plain_length names (Some end.Overrun) plain = omega arith
plain_length names (Some end.Late) plain = omega arith
plain_length names (Some (end.Stale item stamp)) plain = absurd (plain tt)
plain_length names (Some (end.Apart a b)) plain = absurd (plain tt)
plain_length names (Some end.Quit) plain = omega arith

op_length : (names : Names) (op : Op) → AreNames names.items → HasValue op → length (op_text names op) ≤ 60
op_length names (Read item) good value = simp length-append (omega (arith, name_length names.items item.0 good))
op_length names (Write item value) good fits =
    simp length-append (omega (arith, name_length names.items item.0 good, signed_length value fits))
op_length names Compute good value = omega arith
op_length names Commit good value = omega arith
op_length names Quit good value = omega arith

-- ---- whole lines

module _ (names : Names) (items : AreNames names.items) (txns : AreNames names.txns) (place : ℕ) (second : Bool) where
  -- the bytes of an operation and of what came of it
  step_length : (job : JobId) (op : Op) (outcome : Outcome) (over : Option End) (tick most : ℕ)
      → EntryFits second (Step job op outcome over tick)
      → length (op_text names op) + length (over_text names over) ≤ most → most ≤ 87
      → IsShort (whole_entry_line names place (Step job op outcome over tick))
  step_length job op outcome over tick most fits le few =
      simp length-append (omega (arith, name_length names.txns job.tx.0 txns, short_length job.serial fits.0, unsigned_length tick fits.1, outcome_length outcome fits.3, le, few))

  line_length : (e : Entry) → EntryFits second e → EndsWell e → IsShort (whole_entry_line names place e)
  line_length (Planned tx tick) fits well =
      simp length-append (omega (arith, name_length names.txns tx.0 txns, unsigned_length tick fits))
  line_length (Step job (Read item) outcome over tick) fits well =
      step_length job (Read item) outcome over tick 74 fits
      (omega (arith, op_length names (Read item) items fits.2, plain_length names over well)) (omega arith)
  line_length (Step job (Write item value) outcome over tick) fits well =
      step_length job (Write item value) outcome over tick 74 fits
      (omega (arith, op_length names (Write item value) items fits.2, plain_length names over well)) (omega arith)
  line_length (Step job Compute outcome over tick) fits well =
      step_length job Compute outcome over tick 74 fits
      (omega (arith, plain_length names over well)) (omega arith)
  line_length (Step job Commit outcome over tick) fits well =
      step_length job Commit outcome over tick 83 fits (omega (arith, over_length names second over items fits.4)) (omega arith)
  line_length (Step job Quit outcome over tick) fits well =
      step_length job Quit outcome over tick 74 fits
      (omega (arith, plain_length names over well)) (omega arith)
  line_length (Blocked job op by ceiling tick) fits well =
      simp length-append (omega (
        arith,
        name_length names.txns job.tx.0 txns,
        short_length job.serial fits.0,
        unsigned_length tick fits.1,
        op_length names op items fits.2,
        name_length names.txns by.tx.0 txns,
        short_length by.serial fits.3,
        short_length ceiling fits.4,
      ))
  line_length (Idle from to) fits well =
      simp length-append (omega (arith, unsigned_length from fits.0, unsigned_length to fits.1))

pub entry_lines : (names : Names) (set : Set) (entries : List Entry) (place : ℕ) → AreNames names.items
    → AreNames names.txns → IsCompiled set → IsLegal set entries → HistoryFits set entries
    → All (λ e. IsShort (whole_entry_line names place e)) entries
entry_lines names set entries place items txns ok legal fits =
    all_from (λ e. IsShort (whole_entry_line names place e)) entries
    (λ e i. line_length names items txns place (is_second set) e (every_in (EntryFits (is_second set)) entries e fits.each i)
    (each_ends_well set entries e ok legal i))
