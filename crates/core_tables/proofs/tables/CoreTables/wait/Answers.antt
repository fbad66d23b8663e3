use Rattle.core_tables.proofs.Planned.{at_view}
use Rattle.core_tables.proofs.Effected.{waits, may_wait_here, blocked_in_range}
use Rattle.core_tables.proofs.tables.CoreTables.wait.Goals as goal

pub wait-requires-clause-tx : goal.wait-requires-clause-tx
wait-requires-clause-tx c =
    let set = c.requires.blocked.0 in
    let some = c.requires.blocked.1 in
    blocked_in_range set _ some.state c.args.job c.args.by some.op some.ceiling (at_view set _ _ some.state c.self.view_is some.are) some.legal some.blocked

pub wait-requires-clause-may : goal.wait-requires-clause-may
wait-requires-clause-may c =
    let set = c.requires.blocked.0 in
    let some = c.requires.blocked.1 in
    may_wait_here set _ some.state c.args.job c.args.by some.op some.ceiling (at_view set _ _ some.state c.self.view_is some.are) some.legal some.blocked

pub returns : goal.returns
returns c = λ set s op ceiling are legal blocked.
    waits set _ s c.args.job c.args.by op ceiling c.wait.new.self (at_view set _ _ s c.self.view_is are) legal blocked c.wait.ensures
