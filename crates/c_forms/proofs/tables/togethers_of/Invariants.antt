use Rattle.std.proofs.Common.{◌≡◌, map, take}
use Rattle.c_forms.specs.Rows.{together_of_row}
use Rattle.c_forms.proofs.tables.togethers_of.Given as goal

abbrev pub invariant-loop-row : goal.invariant-loop-row
invariant-loop-row l = l.together.items ≡ map (together_of_row l.ids) (take l.row-index l.rows)
