use Rattle.std.proofs.Common.{◌≡◌, List, ◌++◌, map}
use Rattle.turn_cell.specs.declared.view.View.{View}
use Rattle.turn_cell.specs.Seats.{Gathered, AreIdle}
use Rattle.turn_cell.proofs.cell.gather.Given as goal

abbrev pub invariant-loop-next : goal.invariant-loop-next
invariant-loop-next g l =
    (l.all.table_id ≡ l.fn.table.table_id)
    × ((done : List (View g.row.T-Note.Denot)) × (map (λ s. (g.S.HasSeat.standing s).view) l.fn.seats.items ≡ map (λ s. (g.S.HasSeat.standing s).view) l.seats.items ++ done) × Gathered done l.all.me.0)
    × AreIdle g.S.HasSeat.standing l.fn.table.table_id l.seats.items

abbrev pub decreases-loop-next : goal.decreases-loop-next
decreases-loop-next g l = goal.left-loop-next g l
