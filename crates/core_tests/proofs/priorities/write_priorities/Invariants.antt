use Rattle.core_tests.proofs.priorities.write_priorities.Given as goal

abbrev pub ghosts-assigned : goal.ghosts-assigned
ghosts-assigned a = record { name = a.blank.name; parts = a.blank.parts }
