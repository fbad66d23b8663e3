use Rattle.c_stations.proofs.append.put_piece.Given as goal

abbrev pub ghosts-piece_on : goal.ghosts-piece_on
ghosts-piece_on a = record { base = a.queue.now.base }
