use Rattle.std.proofs.Common.{rules}
use Rattle.report_export.proofs.Chains.{joined}
use Rattle.report_export.proofs.declared.add_txn.Goals as goal

pub returns : goal.returns
returns c =
    search (rules, joined, c.in_ok-add_times.ensures, c.in_ok-add_list.ensures, c.in_ok-add_list-2.ensures, c.in_ok-add_text.ensures) depth 12
