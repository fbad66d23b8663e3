use Rattle.std.proofs.Common.{rules}
use Rattle.report_export.proofs.Chains.{joined}
use Rattle.report_export.proofs.entries.put_body.Goals as goal

pub returns-in-Planned-clause-items : goal.returns-in-Planned-clause-items
returns-in-Planned-clause-items c = rw c.in-Planned.is (search (rules, joined) depth 12)

pub returns-in-Step-clause-items : goal.returns-in-Step-clause-items
returns-in-Step-clause-items c = rw c.in-Step.is (search (rules, joined) depth 12)

pub returns-in-Blocked-clause-items : goal.returns-in-Blocked-clause-items
returns-in-Blocked-clause-items c = rw c.in-Blocked.is (search (rules, joined) depth 12)

pub returns-in-Idle-clause-items : goal.returns-in-Idle-clause-items
returns-in-Idle-clause-items c = rw c.in-Idle.is (search (rules, joined) depth 12)
