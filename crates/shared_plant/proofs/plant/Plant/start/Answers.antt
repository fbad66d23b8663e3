use Rattle.std.proofs.Common.{◌≡◌, ℕ, ◌+◌, ◌-◌, ◌≤◌, ◌++◌, ◌∷◌, [], true, false, None, List, length, replicate, subst, sym, ap, ◌∙◌, arith}
use Rattle.turn_cell.specs.Seats.{fresh}
use Rattle.shared_plant.specs.Seats.{PlantFacts, SeatFacts, AreOf, newcomer, newcomers}
use Rattle.shared_plant.proofs.Starting.{all_are_of}
use Rattle.shared_plant.proofs.plant.Plant.start.Goals as goal

pub seat_all-requires-clause-fresh : goal.seat_all-requires-clause-fresh
seat_all-requires-clause-fresh g c =
    let id = c.in-Ok-new.cell.id in let past = g.P.Past.past in let first = g.B.Board.first c.args.board in
    let txs = c.txs_of-txs.result in let n : (txs + 1) - 1 ≡ txs = omega arith in
    let counted = (g.met.B.Board.is_history c.args.board past c.requires).counted in
    let within : first ≤ length past = omega arith in (
      id,
      past,
      first,
      c.count-front.ensures past c.requires,
      within,
      subst (λ b. c.in-Ok-new.cells.items ≡ replicate txs (fresh id past (g.B.Board.first b) false) ++ fresh id past (g.B.Board.first b) true ∷ []) c.in_ok-shared.ensures.ok
          (subst (λ k. c.in-Ok-new.cells.items ≡ replicate k (fresh id past (g.B.Board.first c.in_ok-shared.shared.board.value) false) ++ fresh id past (g.B.Board.first c.in_ok-shared.shared.board.value) true ∷ []) n c.in-Ok-new.ensures.fresh),
    )

pub returns-in-Ok-new-clause-members : goal.returns-in-Ok-new-clause-members
returns-in-Ok-new-clause-members g c =
    let id = c.in-Ok-new.cell.id in let past = g.P.Past.past in let first = g.B.Board.first c.args.board in
    let txs = c.txs_of-txs.result in let n : (txs + 1) - 1 ≡ txs = omega arith in
    let fresh_is = subst (λ b. c.in-Ok-new.cells.items ≡ replicate txs (fresh id past (g.B.Board.first b) false) ++ fresh id past (g.B.Board.first b) true ∷ []) c.in_ok-shared.ensures.ok
    (subst (λ k. c.in-Ok-new.cells.items ≡ replicate k (fresh id past (g.B.Board.first c.in_ok-shared.shared.board.value) false) ++ fresh id past (g.B.Board.first c.in_ok-shared.shared.board.value) true ∷ []) n c.in-Ok-new.ensures.fresh) in
    let cell = c.in-Ok-new.cell in
    let p : PlantFacts = record { id = cell.id; set = g.B.Board.set cell.origin.board.value; room = g.B.Board.room cell.origin.board.value; start = cell.start; seats = cell.seats } in
    let long : txs ≡ length p.set.txns = c.txs_of-txs.ensures.all ∙ (sym (ap (λ b. length (g.B.Board.set b).txns) c.in_ok-shared.ensures.ok) ∙ sym (ap (λ x. length (g.B.Board.set x.board.value).txns) c.in-Ok-new.ensures.cell.0)) in
    subst (AreOf p) (sym {A = List SeatFacts} (c.seat_all.ensures id past first fresh_is)) (all_are_of p past first txs long)

pub new-requires : goal.new-requires
new-requires g c = record { seats = omega arith; stands = subst (λ b. g.B.Board.stands b g.P.Past.past) (sym c.in_ok-shared.ensures.ok) c.requires }

pub returns-in-Ok-new-clause-plant : goal.returns-in-Ok-new-clause-plant
returns-in-Ok-new-clause-plant g c =
    let made = c.in-Ok-new.ensures.cell in
    let at = ap (λ x. x.board.value) made.0 ∙ c.in_ok-shared.ensures.ok in
    (ap g.B.Board.set at, ap g.B.Board.room at, made.1, made.2 ∙ ap (λ (n : ℕ). n + 1) c.txs_of-txs.ensures.all)

pub returns-in-Ok-new-clause-seats : goal.returns-in-Ok-new-clause-seats
returns-in-Ok-new-clause-seats g c =
    let id = c.in-Ok-new.cell.id in let past = g.P.Past.past in let first = g.B.Board.first c.args.board in
    let txs = c.txs_of-txs.result in let n : (txs + 1) - 1 ≡ txs = omega arith in
    let fresh_is = subst (λ b. c.in-Ok-new.cells.items ≡ replicate txs (fresh id past (g.B.Board.first b) false) ++ fresh id past (g.B.Board.first b) true ∷ []) c.in_ok-shared.ensures.ok
    (subst (λ k. c.in-Ok-new.cells.items ≡ replicate k (fresh id past (g.B.Board.first c.in_ok-shared.shared.board.value) false) ++ fresh id past (g.B.Board.first c.in_ok-shared.shared.board.value) true ∷ []) n c.in-Ok-new.ensures.fresh) in
    c.seat_all.ensures id past first fresh_is ∙ ap (λ (k : ℕ). newcomers id past first k ++ newcomer id past first None ∷ []) c.txs_of-txs.ensures.all

pub seat_all-requires-clause-room : goal.seat_all-requires-clause-room
seat_all-requires-clause-room g c = (c.in-Ok.ensures.items, omega (arith, c.in-Ok.ensures.capacity))

pub overflow_add-need : goal.overflow_add-need
overflow_add-need g c = omega (arith, c.txs_of-txs.ensures.small)
