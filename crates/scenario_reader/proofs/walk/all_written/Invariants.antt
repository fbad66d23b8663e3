use Rattle.std.proofs.Common.{◌≡◌, false, not, drop}
use Rattle.std.specs.Prelude.{◌||◌, slice_index_or}
use Rattle.std.specs.List.{list_all}
use Rattle.item_model.specs.Kinds.{is_dated}
use Rattle.scenario_reader.proofs.walk.all_written.Given as goal

abbrev pub invariant-loop-item : goal.invariant-loop-item
invariant-loop-item l =
    list_all (λ i. not (is_dated l.items i.0) || slice_index_or l.written i.0 false) (drop l.item-index l.writes)
    ≡ list_all (λ i. not (is_dated l.items i.0) || slice_index_or l.written i.0 false) l.writes
