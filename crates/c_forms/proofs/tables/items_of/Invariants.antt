use Rattle.std.proofs.Common.{◌≡◌, map, take}
use Rattle.c_forms.specs.Rows.{item_of_row}
use Rattle.c_forms.proofs.tables.items_of.Given as goal

abbrev pub invariant-loop-row : goal.invariant-loop-row
invariant-loop-row l = l.items.items ≡ map item_of_row (take l.row-index l.rows)
