use Rattle.std.proofs.Common.{◌≡◌, ◌++◌, drop}
use Rattle.std.specs.List.{flat_map}
use Rattle.picture_text.specs.Ages.{age_text}
use Rattle.picture_text.proofs.ages.add_spans.Given as goal

abbrev pub invariant-loop-span : goal.invariant-loop-span
invariant-loop-span l =
    l.into.items ++ flat_map (age_text l.set l.view) (drop l.span-index l.spans) ≡ l.fn.into.items ++ flat_map (age_text l.set l.view) l.spans
