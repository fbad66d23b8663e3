use Rattle.std.proofs.Common.{sym}
use Rattle.name_table.specs.Places.{place_in}
use Rattle.scenario_forms.proofs.FreshNames.{IsFresh, holds_ok, txn_fresh}
use Rattle.scenario_forms.proofs.txn.add_txn.Goals as goal

pub put-requires-clause-new : goal.put-requires-clause-new
put-requires-clause-new c =
    (holds_ok (IsFresh (place_in c.args.table.now.names)) _ c.in_ok-name.name (txn_fresh _ _ _ _)
    (sym c.in_ok-name.ensures)).0
