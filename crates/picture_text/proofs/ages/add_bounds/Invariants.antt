use Rattle.std.proofs.Common.{◌≡◌, ◌++◌, drop}
use Rattle.std.specs.List.{flat_map}
use Rattle.picture_text.specs.Ages.{bound_of}
use Rattle.picture_text.proofs.ages.add_bounds.Given as goal

abbrev pub invariant-loop-bound : goal.invariant-loop-bound
invariant-loop-bound l =
    l.into.items ++ flat_map (bound_of l.set l.view) (drop l.bound-index l.bounds) ≡ l.fn.into.items ++ flat_map (bound_of l.set l.view) l.bounds
