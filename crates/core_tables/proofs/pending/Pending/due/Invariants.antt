use Rattle.core_tables.proofs.pending.Pending.due.Given as goal

abbrev pub ghosts-first_due : goal.ghosts-first_due
ghosts-first_due a = record { name = a.blank.name; parts = a.blank.parts }
