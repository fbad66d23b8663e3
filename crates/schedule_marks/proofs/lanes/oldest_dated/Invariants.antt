use Rattle.std.proofs.Common.{◌≡◌, drop}
use Rattle.std.specs.List.{filter}
use Rattle.item_model.specs.Kinds.{is_dated}
use Rattle.item_model.specs.Work.{oldest}
use Rattle.schedule_marks.proofs.lanes.oldest_dated.Given as goal

abbrev pub invariant-loop-i : goal.invariant-loop-i
invariant-loop-i l = l.best ≡ oldest (filter (λ r. is_dated l.decls r.item.0) (drop l.i l.reads))
