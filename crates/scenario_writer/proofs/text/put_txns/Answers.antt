use Rattle.std.proofs.lemmas.Result.{on_ok_weaker}
use Rattle.scenario_writer.proofs.Sending.{one_field}
use Rattle.scenario_writer.proofs.text.put_txns.Goals as goal

pub returns-clause-data : goal.returns-clause-data
returns-clause-data c = on_ok_weaker c.txns.result (one_field _ _ _ _ _ c.in_ok-key.ensures) c.txns.ensures.data
