use Rattle.std.proofs.Common.{◌≡◌, ◌==◌, ◌++◌, take, drop}
use Rattle.std.specs.List.{find}
use Rattle.item_model.specs.Work.{with_write}
use Rattle.item_model.proofs.notes.replace_write.Given as goal

abbrev pub invariant-loop-i : goal.invariant-loop-i
invariant-loop-i l =
    (l.writes ≡ l.initial.writes)
    × (find (λ w. w.item.0 == l.write.item.0) l.writes.items ≡ find (λ w. w.item.0 == l.write.item.0) (drop l.i l.writes.items))
    × (with_write l.writes.items l.write.item l.write.value ≡ take l.i l.writes.items ++ with_write (drop l.i l.writes.items) l.write.item l.write.value)
