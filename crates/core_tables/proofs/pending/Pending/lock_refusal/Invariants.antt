use Rattle.core_tables.proofs.pending.Pending.lock_refusal.Given as goal

abbrev pub ghosts-refused : goal.ghosts-refused
ghosts-refused a = record { name = a.blank.name; parts = a.blank.parts }
