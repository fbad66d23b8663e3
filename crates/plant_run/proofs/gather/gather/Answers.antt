use Rattle.std.proofs.Common.{◌≡◌, ◌++◌, length, vec_len, Vec, Global, ap, ◌∙◌, arith, rules}
use Rattle.txn_threads.specs.declared.member.Member.{Member}
use Rattle.plant_run.specs.Deals.{team_of, seats_of, seats_in}
use Rattle.plant_run.proofs.Gathers.{gone_more, popped_one, popped_items, team_counts}
use Rattle.plant_run.proofs.gather.gather.Goals as goal

pub leave-requires : goal.leave-requires
leave-requires g c =
    let i = c.loop.invariant in let w = c.unwrap.result in
    let e = popped_items c.loop.workers.items c.pop.new.self.items c.pop.result w c.unwrap.ensures c.pop.ensures.items in
    let counts = team_counts c.loop.workers.items c.pop.new.self.items w e in
    let long : vec_len w.members ≡ length (team_of w) = search rules in
    let same = ap (λ (v : Vec (Member g.row.B.Denot g.row.Y.Denot) Global). vec_len v) c.into_members.ensures.parts in
    record { places = omega (arith, i.len, i.places, counts, long, same) }

pub loop-preserved : goal.loop-preserved
loop-preserved g c =
    let i = c.loop.invariant in let w = c.unwrap.result in
    let e = popped_items c.loop.workers.items c.pop.new.self.items c.pop.result w c.unwrap.ensures c.pop.ensures.items in
    let one = popped_one c.pop.result w _ _ c.unwrap.ensures c.pop.ensures.len in
    let counts = team_counts c.loop.workers.items c.pop.new.self.items w e in
    let long : vec_len w.members ≡ length (team_of w) = search rules in
    let same = ap (λ (v : Vec (Member g.row.B.Denot g.row.Y.Denot) Global). vec_len v) c.into_members.ensures.parts in
    record {
      seats = gone_more (c.args.seats.now.items ++ seats_in c.args.workers.items) c.loop.seats.items c.leave.new.seats.items c.loop.workers.items c.pop.new.self.items w i.seats e
          (c.leave.ensures.seats ∙ ap (λ (v : Vec (Member g.row.B.Denot g.row.Y.Denot) Global). c.loop.seats.items ++ seats_of v.items) c.into_members.ensures.parts);
      len = omega (arith, i.len, counts, long, same, c.leave.ensures.len);
      left = omega (arith, one, i.left);
      places = c.leave.ensures.places ∙ i.places;
    }
