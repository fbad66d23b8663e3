use Rattle.std.proofs.Common.{length, ap, arith}
use Rattle.scenario_check.proofs.Lasts.{good_ops}
use Rattle.scenario_check.proofs.listing.put_txn.Goals as goal

pub put_script-requires : goal.put_script-requires
put_script-requires c =
    good_ops (length c.as_slice-items.result.now) (length c.args.scenario.now.items) _ c.as_slice-2.result.now
    c.args.scenario.now.scripts c.args.tx c.index-as_slice-tx-2.result (ap length c.as_slice-items.ensures)
    c.ops-ops.ensures c.as_slice-2.ensures (omega (arith, c.requires.scripted, c.requires.in_range))
    c.index-as_slice-tx-2.is c.requires.good
