use Rattle.c_core.proofs.margins.told_margin.Given as goal

abbrev pub ghosts-margin_of : goal.ghosts-margin_of
ghosts-margin_of a = record { name = a.blank.name; parts = a.blank.parts }
