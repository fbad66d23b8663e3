use Rattle.std.proofs.Common.{arith}
use Rattle.std.proofs.lemmas.Bool.{leb-true}
use Rattle.txn_priorities.proofs.Tested.{held-passes}
use Rattle.txn_priorities.proofs.testing.is_held.Goals as goal

pub returns : goal.returns
returns c = λ so.
    held-passes c.args.level.set.now c.args.level.prios.now c.args.tx c.args.window c.args.most c.requires.tx c.requires.free c.requires.most
    (omega (arith, c.if-window-eq0.false))
    (omega (arith, c.if-window-most.false))
    (omega (arith, leb-true c.demand_of.result c.args.window so, c.demand_of.ensures))
