use Rattle.core_tables.proofs.Planned.{at_view}
use Rattle.core_tables.proofs.Refusals.{asking_pends, asking_in_range, asking_item, rule_tells}
use Rattle.core_tables.proofs.tables.CoreTables.blocker.Goals as goal

pub lock_refusal-requires-clause-tx : goal.lock_refusal-requires-clause-tx
lock_refusal-requires-clause-tx c =
    let set = c.requires.asks.0 in
    let some = c.requires.asks.1 in
    asking_in_range set _ some.state c.args.job c.args.op (at_view set _ _ some.state c.self.view_is some.are) some.legal some.asking

pub lock_refusal-requires-clause-item : goal.lock_refusal-requires-clause-item
lock_refusal-requires-clause-item c =
    let set = c.requires.asks.0 in
    let some = c.requires.asks.1 in
    asking_item set _ some.state c.args.job c.args.op (at_view set _ _ some.state c.self.view_is some.are) some.legal some.asking

pub returns : goal.returns
returns c = λ set s now legal asking.
    let are = at_view set _ _ s c.self.view_is now in
    rule_tells set s c.args.job c.args.op c.lock_refusal.result asking
    (c.lock_refusal.ensures set s asking.row are.rows (asking_pends set s c.args.job c.args.op legal asking))
