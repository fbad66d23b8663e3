use Rattle.job_rows.proofs.pending.Pending.release.Given as goal

abbrev pub ghosts-rank_of : goal.ghosts-rank_of
ghosts-rank_of a = record { name = a.blank.name; parts = a.blank.parts }
