use Rattle.std.proofs.Common.{arith}
use Rattle.std.proofs.lemmas.List.FromFn.{map-range_with_len_more}
use Rattle.set_admission.specs.Rows.{age_row}
use Rattle.set_admission.proofs.age.age_rows_of.Goals as goal

pub loop-item-preserved : goal.loop-item-preserved
loop-item-preserved c = cc (map-range_with_len_more (age_row c.args.set.now) 0 c.loop-item.item c.loop-item.item (omega arith), c.in_ok-push.ensures.items, c.in_ok-row.ensures, c.loop-item.invariant)
