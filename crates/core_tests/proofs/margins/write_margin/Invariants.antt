use Rattle.core_tests.proofs.margins.write_margin.Given as goal

abbrev pub ghosts-margins : goal.ghosts-margins
ghosts-margins a = record { name = a.blank.name; parts = a.blank.parts }
