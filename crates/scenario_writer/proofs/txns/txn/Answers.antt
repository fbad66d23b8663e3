use Rattle.std.proofs.lemmas.Result.{on_ok_weaker}
use Rattle.step_script.specs.Scripts.{program_of}
use Rattle.scenario_writer.proofs.Whole.{whole_txn}
use Rattle.scenario_writer.proofs.txns.txn.Goals as goal

pub returns-clause-data : goal.returns-clause-data
returns-clause-data c = on_ok_weaker c.end_object.result (whole_txn c.args.second c.args.names.now c.args.one.name.now
    c.args.one.decl.now (program_of c.args.one.script.now) c.args.one.releases.now _ _ _ _ _ _ c.in_ok-begin_object.ensures
    c.in_ok-put_head.ensures c.in_ok-put_numbers.ensures c.in_ok-put_lists.ensures.data) c.end_object.ensures
