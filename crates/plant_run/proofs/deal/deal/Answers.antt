use Rattle.std.proofs.Common.{◌≡◌, ℕ, ◌+◌, ◌-◌, ◌%◌, ◌<◌, [], ◌∷◌, ◌++◌, List, length, map, set, take, slice_index_or, vec_len, vec_capacity, refl, sym, ap, subst, ◌∙◌, arith, rules}
use Rattle.std.proofs.lemmas.List.{length-set}
use Rattle.std.proofs.lemmas.Nat.{mod_below}
use Rattle.shared_plant.specs.Seats.{newcomers}
use Rattle.plant_run.specs.Deals.{HavePlaces, AreDealt}
use Rattle.plant_run.specs.Runs.{eager_jobs_at}
use Rattle.plant_run.proofs.Gathers.{popped_one, popped_items}
use Rattle.plant_run.proofs.Deals.{Row, rows, none_dealt, dealt_more, place_left, places_more, last_seat, is_dealt, all_bodies, bodies_more}
use Rattle.plant_run.proofs.deal.deal.Goals as goal

pub loop-dealt-init : goal.loop-dealt-init
loop-dealt-init g c =
    let n : ℕ = length c.args.releases.now in let all : n - 0 ≡ n = omega arith in
    record {
      bodies = all_bodies c.args.bodies.items (n - 0) (omega (arith, c.requires.each.0));
      bodies_left = search rules;
      seats_left = omega (arith, c.requires.each.1);
      capacity = refl;
      number = refl;
      places = subst (λ (k : ℕ). HavePlaces k c.args.lists.now) (sym all) c.requires.places;
      dealt = λ id past first is. subst (λ (k : ℕ). (c.args.seats.now.items ≡ newcomers id past first k) × AreDealt g.Y.Body.gives (map g.Y.Body.gives c.args.bodies.items) c.args.releases.now (eager_jobs_at c.args.eager_jobs.now) id past first k (rows c.args.lists.now)) (sym all)
          (is, none_dealt g.Y.Body.gives (map g.Y.Body.gives c.args.bodies.items) c.args.releases.now (eager_jobs_at c.args.eager_jobs.now) id past first c.args.lists.now c.requires.empty);
    }

pub push_reserved-requires : goal.push_reserved-requires
push_reserved-requires g c =
    let i = c.loop-dealt.invariant in let n : ℕ = length c.args.releases.now in
    let tx : ℕ = n - 1 - c.loop-dealt.dealt in let at : ℕ = tx % length c.loop-dealt.lists in
    let lt : at < length c.loop-dealt.lists = mod_below tx (length c.loop-dealt.lists) (omega (arith, i.number, c.requires.some)) in
    let low = place_left (n - c.loop-dealt.dealt) tx at c.loop-dealt.lists c.index-lists-at.result (omega (arith, c.loop-dealt-test.true)) refl lt i.places in
    omega (arith, low)

pub loop-dealt-preserved : goal.loop-dealt-preserved
loop-dealt-preserved g c =
    let i = c.loop-dealt.invariant in let n : ℕ = length c.args.releases.now in
    let tx : ℕ = n - 1 - c.loop-dealt.dealt in let left : ℕ = n - c.loop-dealt.dealt in
    let low = c.loop-dealt-test.true in
    let left_is : left ≡ tx + 1 = omega (arith, low) in
    let next : tx ≡ n - (c.loop-dealt.dealt + 1) = omega (arith, low) in
    let lists : List (Row g.row.B.Denot g.row.Y.Denot) = c.loop-dealt.lists in let at : ℕ = tx % length lists in
    let list : Row g.row.B.Denot g.row.Y.Denot = c.index-lists-at.result in let list' : Row g.row.B.Denot g.row.Y.Denot = c.push_reserved.new.self in
    let lt : at < length lists = mod_below tx (length lists) (omega (arith, i.number, c.requires.some)) in
    let here : list ≡ slice_index_or lists at list = c.index-lists-at.is in
    let one = popped_one c.pop.result c.unwrap-seat.result _ _ c.unwrap-seat.ensures c.pop.ensures.len in
    let other = popped_one c.pop-in-loop-dealt.result c.unwrap-body.result _ _ c.unwrap-body.ensures c.pop-in-loop-dealt.ensures.len in
    let gone = popped_items c.loop-dealt.seats.items c.pop.new.self.items c.pop.result c.unwrap-seat.result c.unwrap-seat.ensures c.pop.ensures.items in
    let body = bodies_more c.args.bodies.items c.loop-dealt.bodies.items c.pop-in-loop-dealt.new.self.items c.unwrap-body.result left tx left_is (omega (arith, low, c.requires.each.0)) i.bodies
    (popped_items c.loop-dealt.bodies.items c.pop-in-loop-dealt.new.self.items c.pop-in-loop-dealt.result c.unwrap-body.result c.unwrap-body.ensures c.pop-in-loop-dealt.ensures.items) in
    let grown : list'.items ≡ list.items ++ c.new.result ∷ [] = c.push_reserved.ensures.items ∙ ap (λ (v : Row g.row.B.Denot g.row.Y.Denot). v.items ++ c.new.result ∷ []) (sym here) in
    let longer : vec_len list' ≡ vec_len list + 1 = c.push_reserved.ensures.len ∙ ap (λ (v : Row g.row.B.Denot g.row.Y.Denot). vec_len v + 1) (sym here) in
    let same : vec_capacity list' ≡ vec_capacity list = c.push_reserved.ensures.capacity ∙ ap (λ (v : Row g.row.B.Denot g.row.Y.Denot). vec_capacity v) (sym here) in
    let parts = c.new.ensures.parts in
    record {
      bodies = body.0 ∙ ap (λ (k : ℕ). take k c.args.bodies.items) next;
      bodies_left = omega (arith, other, i.bodies_left);
      seats_left = omega (arith, one, i.seats_left);
      capacity = c.pop.ensures.capacity ∙ i.capacity;
      number = length-set lists at list' ∙ i.number;
      places = subst (λ (k : ℕ). HavePlaces k (set lists at list')) next (places_more left tx at lists list list' left_is refl lt here longer same i.places);
      dealt = λ id past first is.
          let was = i.dealt id past first is in
          let last = last_seat id past first left tx c.loop-dealt.seats.items c.pop.new.self.items c.unwrap-seat.result left_is was.0 gone in
          let seat = parts.0 ∙ last.1 in
          let m = is_dealt g.Y.Body.gives c.args.bodies.items c.args.releases.now (eager_jobs_at c.args.eager_jobs.now) id past first tx c.new.result c.unwrap-body.result (omega (arith, low)) (omega (arith, low, c.requires.each.0)) body.1 seat (ap g.Y.Body.gives parts.1)
          (parts.2 ∙ c.jobs_of-jobs.ensures.jobs) (parts.3 ∙ c.jobs_of-jobs.ensures.eager) in
          subst (λ (k : ℕ). (c.pop.new.self.items ≡ newcomers id past first k) × AreDealt g.Y.Body.gives (map g.Y.Body.gives c.args.bodies.items) c.args.releases.now (eager_jobs_at c.args.eager_jobs.now) id past first k (rows (set lists at list'))) next
          (last.0, dealt_more g.Y.Body.gives (map g.Y.Body.gives c.args.bodies.items) c.args.releases.now (eager_jobs_at c.args.eager_jobs.now) id past first left tx at lists list list' c.new.result left_is lt here grown m seat was.1);
    }
