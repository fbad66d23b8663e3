use Rattle.std.proofs.Common.{◌≡◌, ℕ}
use Rattle.shared_plant.specs.Answers.{missed_more}
use Rattle.shared_plant.proofs.plant.Plant.drain.Given as goal

abbrev pub invariant-loop : goal.invariant-loop
invariant-loop g l =
    (goal.iterator-loop g).can_next l.iterator' × (goal.iterator-loop g).is_finite l.iterator'
    × ((n : ℕ) × (l.seat ≡ missed_more l.fn.seat n)) × (l.into ≡ l.fn.into)
