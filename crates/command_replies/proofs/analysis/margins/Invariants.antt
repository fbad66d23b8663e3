use Rattle.command_replies.proofs.analysis.margins.Given as goal

abbrev pub ghosts-margin_lines : goal.ghosts-margin_lines
ghosts-margin_lines a = record { name = a.blank.name; parts = a.blank.parts }
