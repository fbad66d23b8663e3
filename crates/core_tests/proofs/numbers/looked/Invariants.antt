use Rattle.core_tests.proofs.numbers.looked.Given as goal

abbrev pub ghosts-at_zero : goal.ghosts-at_zero
ghosts-at_zero a = record { name = a.blank.name; parts = 1 }
