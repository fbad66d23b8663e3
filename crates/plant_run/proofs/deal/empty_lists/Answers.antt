use Rattle.std.proofs.Common.{◌≡◌, ◌+◌, ◌/◌, ◌≤◌, [], length, vec_len, vec_capacity, All, Vec, Global, subst, sym, arith, rules}
use Rattle.std.proofs.lemmas.List.Elements.{All-push}
use Rattle.txn_threads.specs.declared.member.Member.{Member}
use Rattle.plant_run.proofs.Shares.{places_enough}
use Rattle.plant_run.proofs.deal.empty_lists.Goals as goal

pub loop-preserved : goal.loop-preserved
loop-preserved g c =
    let i = c.loop.invariant in let new = c.in_ok-list.ensures in let v = c.in_ok-list.list in
    let P = λ (v : Vec (Member g.row.B.Denot g.row.Y.Denot) Global). (vec_len v ≡ 0) × (c.args.txs / c.args.workers + 1 ≤ vec_capacity v) in
    let Q = λ (v : Vec (Member g.row.B.Denot g.row.Y.Denot) Global). v.items ≡ [] in
    let more = c.push_reserved.ensures.items in
    record {
      len = omega (arith, c.push_reserved.ensures.len, i.len);
      room = omega (arith, c.push_reserved.ensures.capacity, i.room);
      places = subst (All P) (sym more) (All-push P c.loop.lists.items v i.places (new.len, omega (arith, new.exact)));
      empty = subst (All Q) (sym more) (All-push Q c.loop.lists.items v i.empty new.items);
    }

pub returns-clause-places : goal.returns-clause-places
returns-clause-places g c =
    let i = c.loop.invariant in
    let long : length c.loop.lists.items ≡ c.args.workers = search rules in
    places_enough c.args.txs c.args.workers c.loop.lists.items long i.places
