use Rattle.std.proofs.Common.{◌≡◌, ◌++◌, codes, rules}
use Rattle.report_export.specs.Json.{valued}
use Rattle.report_export.proofs.Chains.{joined, begun}
use Rattle.report_export.proofs.declared.add_item.Goals as goal

pub returns : goal.returns
returns c =
    let value : c.put_valued.new.into.items ≡ c.put_kind.new.into.items ++ valued (codes ",\"value\":") c.args.decl.now.initial = search rules in
    search (rules, joined, begun) depth 12
