use Rattle.std.proofs.Common.{◌≡◌, ◌++◌, drop, Option}
use Rattle.std.specs.List.{filter_map}
use Rattle.std.specs.Fn.{FnReturnsAt}
use Rattle.schedule_marks.proofs.lists.add_each.Given as goal

abbrev pub invariant-loop-one : goal.invariant-loop-one
invariant-loop-one g l =
    (found : _ → Option _) → ((one : _) (what : Option _) → FnReturnsAt g.F.Fn l.find one what → what ≡ found one)
    → l.into.items ++ filter_map found (drop l.one-index l.list) ≡ l.fn.into.items ++ filter_map found l.list
