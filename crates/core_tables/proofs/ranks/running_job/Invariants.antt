use Rattle.core_tables.proofs.ranks.running_job.Given as goal

abbrev pub ghosts-running_tx : goal.ghosts-running_tx
ghosts-running_tx a = record { name = a.blank.name; parts = a.blank.parts }
