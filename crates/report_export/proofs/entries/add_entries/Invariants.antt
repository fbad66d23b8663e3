use Rattle.std.proofs.Common.{◌≡◌, ◌++◌, drop}
use Rattle.report_text.specs.Rows.{numbered}
use Rattle.report_export.specs.Json.{entry_json}
use Rattle.report_export.proofs.entries.add_entries.Given as goal

abbrev pub invariant-loop-entry : goal.invariant-loop-entry
invariant-loop-entry l =
    l.into.items ++ numbered (entry_json l.names) l.entry-index (drop l.entry-index l.entries)
    ≡ l.fn.into.items ++ numbered (entry_json l.names) 0 l.entries
