use Rattle.std.proofs.Common.{sym, arith}
use Rattle.core_tables.proofs.Refusals.{asked_refused, waits_refused}
use Rattle.core_tables.proofs.Places.{places}
use Rattle.core_tables.proofs.Planned.{at_view}
use Rattle.core_tables.proofs.tables.CoreTables.refused.Goals as goal

pub out_of_turn-requires-clause-tallies : goal.out_of_turn-requires-clause-tallies
out_of_turn-requires-clause-tallies c =
    let stand = c.requires.stand in
    omega (arith, c.requires.in_set, (places c.args.set.now _ stand.state stand.are stand.legal).tallies)

pub out_of_turn-requires-clause-rows : goal.out_of_turn-requires-clause-rows
out_of_turn-requires-clause-rows c =
    let stand = c.requires.stand in
    omega (arith, c.requires.in_set, (places c.args.set.now _ stand.state stand.are stand.legal).rows)

pub out_of_turn-requires-clause-stand : goal.out_of_turn-requires-clause-stand
out_of_turn-requires-clause-stand c = (c.args.set.now, c.requires.stand)

pub returns-then-runs : goal.returns-then-runs
returns-then-runs c = λ s are legal.
    let set = c.args.set.now in
    let here = at_view set _ _ s c.self.view_is are in
    asked_refused set _ s c.args.kept c.args.room c.args.job c.running-running.result c.args.op c.asked.result here legal
    (c.running-running.ensures set here.rows.facts) (sym c.if-runs.ensures) (λ row there own. c.asked.ensures s row are there own)

pub returns : goal.returns
returns c = λ s are legal.
    let set = c.args.set.now in
    let here = at_view set _ _ s c.self.view_is are in
    waits_refused set _ s c.args.kept c.args.room c.args.job c.running-running.result c.args.op c.out_of_turn.result here
    (c.running-running.ensures set here.rows.facts) (sym c.if-runs.ensures) (c.out_of_turn.ensures set s are)
