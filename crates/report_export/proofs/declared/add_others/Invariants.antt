use Rattle.std.proofs.Common.{◌≡◌, ◌+◌, ◌++◌, drop}
use Rattle.report_text.specs.Rows.{numbered}
use Rattle.report_export.specs.Json.{more_item}
use Rattle.report_export.proofs.declared.add_others.Given as goal

abbrev pub invariant-loop-id : goal.invariant-loop-id
invariant-loop-id l =
    l.into.items ++ numbered (more_item l.names) (l.id-index + 1) (drop l.id-index l.ids)
    ≡ l.fn.into.items ++ numbered (more_item l.names) 1 l.ids
