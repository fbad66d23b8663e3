use Rattle.std.proofs.Common.{◌≡◌, None, [], ◌∷◌, ◌++◌, sym, rules}
use Rattle.step_script.specs.Scripts.{operation}
use Rattle.scenario_writer.specs.Canonical.{op_data}
use Rattle.scenario_writer.specs.Runs.{computes_of, run_data}
use Rattle.scenario_writer.proofs.Runs.{run_goes_on, run_ends, more_computes}
use Rattle.scenario_writer.proofs.Sending.{no_items_sent, then_item}
use Rattle.scenario_writer.proofs.script.step.Goals as goal

pub returns-in-Some-clause-goes_on : goal.returns-in-Some-clause-goes_on
returns-in-Some-clause-goes_on c = (
  [],
  no_items_sent c.args.out.now,
  λ ops. sym (run_goes_on c.args.names.now c.args.run c.in-Some.n (operation c.args.op.now) ops c.in-Some.ensures
      (more_computes _ _ _ c.in-Some.ensures c.requires.good)),
)

pub returns-clause-goes_on : goal.returns-clause-goes_on
returns-clause-goes_on c =
    let none : None ≡ computes_of (operation c.args.op.now) = search rules in (
      run_data c.args.run ++ op_data c.args.names.now (operation c.args.op.now) ∷ [],
      then_item (run_data c.args.run) _ _ _ _ c.in_ok-end_run.ensures c.in_ok-op_text.ensures.data,
      λ ops. run_ends c.args.names.now c.args.run (operation c.args.op.now) ops none,
    )
