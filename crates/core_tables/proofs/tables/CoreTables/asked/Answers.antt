use Rattle.std.proofs.Common.{ap, arith}
use Rattle.core_tables.specs.declared.head.Head.{Head}
use Rattle.core_tables.proofs.Places.{places}
use Rattle.core_tables.proofs.Planned.{at_view}
use Rattle.core_tables.proofs.Refusals.{asked_row, asked_item}
use Rattle.core_tables.proofs.tables.CoreTables.asked.Goals as goal

pub head-requires : goal.head-requires
head-requires c =
    let stand = c.requires.stand in
    omega (arith, c.requires.in_set, (places c.args.set.now _ stand.state (at_view c.args.set.now _ _ stand.state c.self.view_is stand.are) stand.legal).rows)

pub denied-requires-clause-in_set : goal.denied-requires-clause-in_set
denied-requires-clause-in_set c =
    let stand = c.requires.stand in
    let are = at_view c.args.set.now _ _ stand.state c.self.view_is stand.are in
    let row = asked_row c.args.set.now _ stand.state c.args.job.tx.0 c.in-Some.head are stand.legal c.in-Some.ensures in
    omega (arith, c.requires.in_set, row.own, ap (λ (h : Head). h.job.tx.0) row.is)

pub denied-requires-clause-row : goal.denied-requires-clause-row
denied-requires-clause-row c =
    let stand = c.requires.stand in
    let are = at_view c.args.set.now _ _ stand.state c.self.view_is stand.are in
    let row = asked_row c.args.set.now _ stand.state c.args.job.tx.0 c.in-Some.head are stand.legal c.in-Some.ensures in
    omega (arith, c.requires.in_set, row.own, ap (λ (h : Head). h.job.tx.0) row.is, (places c.args.set.now _ stand.state are stand.legal).rows)

pub lock_refusal-requires-clause-item : goal.lock_refusal-requires-clause-item
lock_refusal-requires-clause-item c =
    let stand = c.requires.stand in
    let are = at_view c.args.set.now _ _ stand.state c.self.view_is stand.are in
    let row = asked_row c.args.set.now _ stand.state c.args.job.tx.0 c.in-Some.head are stand.legal c.in-Some.ensures in
    asked_item c.args.set.now _ stand.state c.args.job.tx.0 c.args.op c.in-Some.head c.denied.result are stand.legal c.requires.in_set row c.in_default-denied.is c.denied.ensures
