use Rattle.std.proofs.Common.{◌≡◌, ap, length, replicate, false, true, arith}
use Rattle.std.specs.Option.{option_to_list}
use Rattle.std.proofs.lemmas.List.{length-replicate}
use Rattle.turn_cell.specs.Seats.{fresh}
use Rattle.shared_plant.proofs.Starting.{popped, next_popped, next_seated, all_seated}
use Rattle.shared_plant.proofs.plant.seat_all.Goals as goal

pub loop-tx-init : goal.loop-tx-init
loop-tx-init g c =
    let r = c.requires.fresh in
    let q = popped c.args.cells.items c.pop.new.self.items (replicate c.args.txs (fresh r.0 r.1 r.2 false)) c.pop.result c.unwrap-operator.result (fresh r.0 r.1 r.2 true) c.pop.ensures.items c.unwrap-operator.ensures r.5 in
    let left = ap length q.0 in let many = length-replicate c.args.txs (fresh r.0 r.1 r.2 false) in let none = ap length c.requires.room.0 in (
      λ id past first e.
          let p = popped c.args.cells.items c.pop.new.self.items (replicate c.args.txs (fresh id past first false)) c.pop.result c.unwrap-operator.result (fresh id past first true) c.pop.ensures.items c.unwrap-operator.ensures e in
          (p.1, c.requires.room.0, (c.args.txs, omega arith, p.0)),
      omega arith,
      omega arith,
      c.requires.room.1,
    )

pub seated-requires : goal.seated-requires
seated-requires g c =
    let r = c.requires.fresh in let j = c.loop-tx.invariant.0 r.0 r.1 r.2 r.5 in (
      r.0,
      r.1,
      r.2,
      r.3,
      r.4,
      (next_popped c.loop-tx.cells.items c.pop-in-loop-tx.new.self.items c.pop-in-loop-tx.result c.unwrap-seat.result (fresh r.0 r.1 r.2 false) j.2.0 c.loop-tx.tx c.args.txs c.pop-in-loop-tx.ensures.items c.unwrap-seat.ensures j.2.2 j.2.1 c.loop-tx-test.true).0,
    )

pub push_reserved-requires : goal.push_reserved-requires
push_reserved-requires g c = omega arith

pub loop-tx-preserved : goal.loop-tx-preserved
loop-tx-preserved g c =
    let one = ap (λ o. length (option_to_list o)) c.unwrap-seat.ensures in (
      λ id past first e.
          let j = c.loop-tx.invariant.0 id past first e in
          let p = next_popped c.loop-tx.cells.items c.pop-in-loop-tx.new.self.items c.pop-in-loop-tx.result c.unwrap-seat.result (fresh id past first false) j.2.0 c.loop-tx.tx c.args.txs c.pop-in-loop-tx.ensures.items c.unwrap-seat.ensures j.2.2 j.2.1 c.loop-tx-test.true in
          (j.0, next_seated id past first c.loop-tx.tx c.loop-tx.seats.items c.push_reserved.new.self.items c.seated.result c.push_reserved.ensures.items j.1 (c.seated.ensures id past first p.0), p.1),
      omega arith,
      omega arith,
      omega arith,
    )

pub seated-requires-2 : goal.seated-requires-2
seated-requires-2 g c = let r = c.requires.fresh in (r.0, r.1, r.2, r.3, r.4, (c.loop-tx.invariant.0 r.0 r.1 r.2 r.5).0)

pub push_reserved-requires-2 : goal.push_reserved-requires-2
push_reserved-requires-2 g c = omega arith

pub returns : goal.returns
returns g c = λ id past first e.
    let j = c.loop-tx.invariant.0 id past first e in
    let sum = j.2.1 in let end = c.loop-tx-test.false in let all : c.loop-tx.tx ≡ c.args.txs = omega arith in
    all_seated id past first c.loop-tx.tx c.args.txs c.loop-tx.seats.items c.push_reserved-2.new.self.items c.seated-2.result c.push_reserved-2.ensures.items j.1 all (c.seated-2.ensures id past first j.0)
