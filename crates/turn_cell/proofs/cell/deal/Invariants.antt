use Rattle.std.proofs.Common.{◌≡◌, ◌≤◌, ◌<◌, ◌+◌, ℕ, true, false, [], replicate, vec_len, vec_capacity}
use Rattle.turn_cell.specs.Seats.{opened, fresh}
use Rattle.turn_cell.proofs.cell.deal.Given as goal

abbrev pub invariant-loop-made : goal.invariant-loop-made
invariant-loop-made g l = let first = g.T.Storied.first l.fn.table.key.value.value in
    (l.seat.table_id ≡ l.fn.table.table_id)
    × ((weight : ℕ) × (0 < weight) × (weight + l.made ≡ l.fn.seats + 1) × (l.seat.me ≡ (opened g.P.Past.past first true weight, [])))
    × ((n : ℕ) × (n + 1 ≡ l.made) × (l.list.items ≡ replicate n (fresh l.fn.table.table_id g.P.Past.past first false)))
    × (vec_len l.list + 1 ≡ l.made)
    × (l.made ≤ l.fn.seats)
    × (l.fn.seats ≤ vec_capacity l.list)
