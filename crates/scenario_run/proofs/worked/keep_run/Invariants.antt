use Rattle.scenario_run.proofs.worked.keep_run.Given as goal

abbrev pub ghosts-run_into : goal.ghosts-run_into
ghosts-run_into g a = record { room = a.out.now.room }
