use Rattle.std.proofs.Common.{◌≡◌, List, reverse, length, map, vec_len, ap, ◌∙◌, rules}
use Rattle.std.proofs.lemmas.List.{with_items_is}
use Rattle.plant_run.specs.Runs.{eager_jobs_at}
use Rattle.plant_run.proofs.Deals.{Row}
use Rattle.plant_run.proofs.Crews.{staffed}
use Rattle.plant_run.proofs.deal.Crew.hire.Goals as goal

pub returns-clause-dealt : goal.returns-clause-dealt
returns-clause-dealt g c = λ id past first is.
    let long : length c.deal.new.lists ≡ vec_len c.args.self.lists = search rules in
    staffed g.Y.Body.gives (map g.Y.Body.gives c.args.bodies.items) c.args.releases.now (eager_jobs_at c.args.eager_jobs.now) id past first c.deal.new.lists c.staff.new.workers.items
    (c.staff.ensures ∙ ap (λ (l : List (Row g.row.B.Denot g.row.Y.Denot)). reverse (map (λ (v : Row g.row.B.Denot g.row.Y.Denot). reverse v.items) l)) (with_items_is c.args.self.lists c.deal.new.lists long))
    (c.deal.ensures.dealt id past first is)
