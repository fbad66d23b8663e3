use Rattle.core_tables.proofs.pending.Pending.end.Given as goal

abbrev pub ghosts-least_deadline : goal.ghosts-least_deadline
ghosts-least_deadline a = record { name = a.blank.name; parts = a.blank.parts }
