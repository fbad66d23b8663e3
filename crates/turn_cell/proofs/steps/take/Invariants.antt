use Rattle.std.proofs.Common.{Some}
use Rattle.turn_cell.proofs.steps.take.Given as goal

abbrev pub ghosts-attempt : goal.ghosts-attempt
ghosts-attempt g a = record { told = Some a.table.now.key.value.value }
