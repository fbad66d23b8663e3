use Rattle.std.proofs.Common.{◌≡◌, ◌==◌, drop}
use Rattle.std.specs.List.{find}
use Rattle.item_model.proofs.notes.find_read.Given as goal

abbrev pub invariant-loop-r : goal.invariant-loop-r
invariant-loop-r l = find (λ r. r.item.0 == l.item.0) l.reads ≡ find (λ r. r.item.0 == l.item.0) (drop l.r-index l.reads)
