use Rattle.std.proofs.Common.{[], refl}
use Rattle.step_journal.specs.Serial.{outcomes_of}
use Rattle.sim_run.specs.Steady.{steady_set, steady_op}
use Rattle.sim_run.proofs.Steady.{steady_asks, good_by}
use Rattle.plant_tests.proofs.alone.run_steady.Goals as goal

pub run-requires-clause-obedient : goal.run-requires-clause-obedient
run-requires-clause-obedient c = λ before legal script row runs.
    steady_asks (λ b k os. steady_op b.computes) (λ b. b.computes) (λ b k os. refl) c.args.board.now.set c.args.bodies.now row row.job.tx.0 row.job.serial (outcomes_of before row.job)

pub run-requires-clause-good : goal.run-requires-clause-good
run-requires-clause-good c = λ history sim n. record {
  begun = [];
  is_got = c.requires.empty;
  is_good = good_by _ steady_set history n c.args.out.now.room c.requires.set c.requires.opened.is_history.compiled sim c.requires.enough;
}
