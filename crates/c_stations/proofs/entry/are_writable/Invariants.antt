use Rattle.std.proofs.Common.{ℕ, ◌<◌, get_or}
use Rattle.step_journal.specs.declared.entry.Entry.{Entry}
use Rattle.journal_text.specs.Lines.{IsWritable}
use Rattle.c_stations.proofs.entry.are_writable.Given as goal

abbrev pub invariant-loop-entry : goal.invariant-loop-entry
invariant-loop-entry l = (k : ℕ) (d : Entry) → k < l.entry-index → IsWritable l.names (get_or l.entries k d)
