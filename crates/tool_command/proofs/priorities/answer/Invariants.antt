use Rattle.tool_command.proofs.priorities.answer.Given as goal

abbrev pub ghosts-assigned : goal.ghosts-assigned
ghosts-assigned a = record { name = a.blank.name; parts = a.blank.parts }
