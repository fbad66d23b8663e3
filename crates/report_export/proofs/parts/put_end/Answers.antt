use Rattle.std.proofs.Common.{rules}
use Rattle.report_export.proofs.Chains.{joined}
use Rattle.report_export.proofs.parts.put_end.Goals as goal

pub returns-in-Apart-clause-items : goal.returns-in-Apart-clause-items
returns-in-Apart-clause-items c = rw c.in-Apart.is (search (rules, joined) depth 12)
