use Rattle.std.proofs.Common.{◌≡◌, ◌++◌, [], List, length, map, reverse, vec_len, sym, ap, ◌∙◌, arith, rules, append-nil}
use Rattle.std.proofs.lemmas.List.{nil_from_length, reverse-reverse}
use Rattle.plant_run.specs.declared.watched.Watched.{Watched}
use Rattle.law_histories.specs.Sim.{Body}
use Rattle.plant_run.proofs.Crews.{map_reverse}
use Rattle.plant_run.proofs.watched.watch.Goals as goal

pub returns : goal.returns
returns g c =
    let gives = λ (w : Watched g.row.Y.Denot g.row.G.Denot). g.Y.Body.gives w.body in
    let i = c.loop.invariant in
    let len : vec_len c.loop.bodies ≡ length c.loop.bodies.items = search rules in
    let none : vec_len c.loop.bodies ≡ 0 = omega (arith, i.left, c.loop-test.false) in
    let empty : c.loop.bodies.items ≡ [] = nil_from_length c.loop.bodies.items (omega (arith, len, none)) in
    let all : map gives c.loop.watched.items ≡ reverse (map g.Y.Body.gives c.args.bodies.items) =
    sym (append-nil (map gives c.loop.watched.items)) ∙ (ap (λ (l : List g.row.Y.Denot). map gives c.loop.watched.items ++ reverse (map g.Y.Body.gives l)) (sym empty) ∙ i.watched) in
    ap (λ (l : List (Watched g.row.Y.Denot g.row.G.Denot)). map gives l) c.reverse.ensures.items ∙ (map_reverse gives c.loop.watched.items ∙ (ap (λ (l : List Body). reverse l) all ∙ reverse-reverse (map g.Y.Body.gives c.args.bodies.items)))
