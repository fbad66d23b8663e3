use Rattle.c_stations.proofs.log_opening.created.Given as goal

abbrev pub ghosts-created_on : goal.ghosts-created_on
ghosts-created_on a = record { base = a.queue.base }
