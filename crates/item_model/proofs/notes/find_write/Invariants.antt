use Rattle.std.proofs.Common.{◌≡◌, ◌==◌, drop}
use Rattle.std.specs.List.{find}
use Rattle.item_model.proofs.notes.find_write.Given as goal

abbrev pub invariant-loop-w : goal.invariant-loop-w
invariant-loop-w l = find (λ w. w.item.0 == l.item.0) l.writes ≡ find (λ w. w.item.0 == l.item.0) (drop l.w-index l.writes)
