use Rattle.std.proofs.Common.{◌≡◌, ◌+◌, ◌≤◌, ◌++◌, map, reverse, vec_len, vec_capacity}
use Rattle.plant_run.specs.declared.watched.Watched.{Watched}
use Rattle.plant_run.proofs.watched.watch.Given as goal

abbrev pub invariant-loop : goal.invariant-loop
invariant-loop g l = record {
  watched : map (λ (w : Watched g.row.Y.Denot g.row.G.Denot). g.Y.Body.gives w.body) l.watched.items ++ reverse (map g.Y.Body.gives l.bodies.items) ≡ reverse (map g.Y.Body.gives l.fn.bodies.items);
  room : vec_len l.watched + vec_len l.bodies ≤ vec_capacity l.watched;
  left : vec_len l.bodies + l.counter ≡ vec_len l.fn.bodies;
}
