use Rattle.std.proofs.Common.{◌≡◌, ◌++◌, drop}
use Rattle.report_text.specs.Rows.{numbered}
use Rattle.report_export.specs.Json.{together_json}
use Rattle.report_export.proofs.declared.add_sets.Given as goal

abbrev pub invariant-loop-decl : goal.invariant-loop-decl
invariant-loop-decl l =
    l.into.items ++ numbered (together_json l.names) l.decl-index (drop l.decl-index l.set.together)
    ≡ l.fn.into.items ++ numbered (together_json l.names) 0 l.set.together
