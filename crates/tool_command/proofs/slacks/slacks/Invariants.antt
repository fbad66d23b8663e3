use Rattle.tool_command.proofs.slacks.slacks.Given as goal

abbrev pub ghosts-text : goal.ghosts-text
ghosts-text a = record { name = a.blank.name; parts = a.blank.parts }
