use Rattle.core_tests.proofs.numbers.try_numbers.Given as goal

abbrev pub ghosts-least : goal.ghosts-least
ghosts-least a = record { name = a.blank.name; parts = 1 }
