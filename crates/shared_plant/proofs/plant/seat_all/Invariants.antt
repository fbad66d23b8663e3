use Rattle.std.proofs.Common.{◌≡◌, ◌<◌, ◌+◌, ℕ, true, false, List, [], ◌∷◌, ◌++◌, replicate, vec_len, vec_capacity}
use Rattle.step_journal.specs.declared.entry.Entry.{Entry}
use Rattle.turn_cell.specs.Seats.{TableId, fresh}
use Rattle.shared_plant.specs.Seats.{newcomers}
use Rattle.shared_plant.proofs.plant.seat_all.Given as goal

abbrev pub invariant-loop-tx : goal.invariant-loop-tx
invariant-loop-tx g l =
    ((id : TableId) (past : List Entry) (first : ℕ) → l.fn.cells.items ≡ replicate l.fn.txs (fresh id past first false) ++ fresh id past first true ∷ []
    → (l.operator ≡ fresh id past first true) × (l.seats.items ≡ newcomers id past first l.tx) × ((n : ℕ) × (n + l.tx ≡ l.fn.txs) × (l.cells.items ≡ replicate n (fresh id past first false))))
    × (vec_len l.cells + l.tx ≡ l.fn.txs)
    × (vec_len l.seats ≡ l.tx)
    × (l.fn.txs < vec_capacity l.seats)
