use Rattle.c_stations.proofs.log_opening.opened.Given as goal

abbrev pub ghosts-opened_on : goal.ghosts-opened_on
ghosts-opened_on a = record { base = a.queue.base }
