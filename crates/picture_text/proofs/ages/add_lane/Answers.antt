use Rattle.std.proofs.Common.{codes, rules, slice_get, ◌++◌, ◌+◌, ◌≡◌}
use Rattle.schedule_marks.specs.Places.{item_y}
use Rattle.schedule_marks.specs.Svg.{line}
use Rattle.picture_text.specs.Ages.{bound_rule}
use Rattle.picture_text.proofs.Sums.{back}
use Rattle.picture_text.proofs.ages.add_lane.Goals as goal

pub returns : goal.returns
returns c =
    let step_1 : c.add_line.new.into.items ≡ c.args.into.now.items ++ (line (codes "b") c.args.left (item_y c.args.set.now c.args.item.0) c.args.right (item_y c.args.set.now c.args.item.0)) = search rules in
    let step_2 : c.add_line-2.new.into.items ≡ c.add_line.new.into.items ++ (line (codes "h") c.args.left (item_y c.args.set.now c.args.item.0 + 54) c.args.right (item_y c.args.set.now c.args.item.0 + 54)) = search rules in
    let step_3 : c.add_line-3.new.into.items ≡ c.add_line-2.new.into.items ++ (line (codes "av") c.args.left (item_y c.args.set.now c.args.item.0 + 24) c.args.right (item_y c.args.set.now c.args.item.0 + 24)) = search rules in
    let step_4 : c.add_bound_rule.new.into.items ≡ c.add_line-3.new.into.items ++ (bound_rule c.args.set.now c.args.left c.args.right c.args.item.0 (slice_get c.args.ages.now c.args.item.0)) = search rules in
    let from_3 : c.add_bound_rule.new.into.items ≡ c.add_line-2.new.into.items ++ ((line (codes "av") c.args.left (item_y c.args.set.now c.args.item.0 + 24) c.args.right (item_y c.args.set.now c.args.item.0 + 24)) ++ (bound_rule c.args.set.now c.args.left c.args.right c.args.item.0 (slice_get c.args.ages.now c.args.item.0))) =
    back c.add_bound_rule.new.into.items c.add_line-3.new.into.items c.add_line-2.new.into.items (line (codes "av") c.args.left (item_y c.args.set.now c.args.item.0 + 24) c.args.right (item_y c.args.set.now c.args.item.0 + 24)) (bound_rule c.args.set.now c.args.left c.args.right c.args.item.0 (slice_get c.args.ages.now c.args.item.0)) step_4 step_3 in
    let from_2 : c.add_bound_rule.new.into.items ≡ c.add_line.new.into.items ++ ((line (codes "h") c.args.left (item_y c.args.set.now c.args.item.0 + 54) c.args.right (item_y c.args.set.now c.args.item.0 + 54)) ++ ((line (codes "av") c.args.left (item_y c.args.set.now c.args.item.0 + 24) c.args.right (item_y c.args.set.now c.args.item.0 + 24)) ++ (bound_rule c.args.set.now c.args.left c.args.right c.args.item.0 (slice_get c.args.ages.now c.args.item.0)))) =
    back c.add_bound_rule.new.into.items c.add_line-2.new.into.items c.add_line.new.into.items (line (codes "h") c.args.left (item_y c.args.set.now c.args.item.0 + 54) c.args.right (item_y c.args.set.now c.args.item.0 + 54)) ((line (codes "av") c.args.left (item_y c.args.set.now c.args.item.0 + 24) c.args.right (item_y c.args.set.now c.args.item.0 + 24)) ++ (bound_rule c.args.set.now c.args.left c.args.right c.args.item.0 (slice_get c.args.ages.now c.args.item.0))) from_3 step_2 in
    let from_1 : c.add_bound_rule.new.into.items ≡ c.args.into.now.items ++ ((line (codes "b") c.args.left (item_y c.args.set.now c.args.item.0) c.args.right (item_y c.args.set.now c.args.item.0)) ++ ((line (codes "h") c.args.left (item_y c.args.set.now c.args.item.0 + 54) c.args.right (item_y c.args.set.now c.args.item.0 + 54)) ++ ((line (codes "av") c.args.left (item_y c.args.set.now c.args.item.0 + 24) c.args.right (item_y c.args.set.now c.args.item.0 + 24)) ++ (bound_rule c.args.set.now c.args.left c.args.right c.args.item.0 (slice_get c.args.ages.now c.args.item.0))))) =
    back c.add_bound_rule.new.into.items c.add_line.new.into.items c.args.into.now.items (line (codes "b") c.args.left (item_y c.args.set.now c.args.item.0) c.args.right (item_y c.args.set.now c.args.item.0)) ((line (codes "h") c.args.left (item_y c.args.set.now c.args.item.0 + 54) c.args.right (item_y c.args.set.now c.args.item.0 + 54)) ++ ((line (codes "av") c.args.left (item_y c.args.set.now c.args.item.0 + 24) c.args.right (item_y c.args.set.now c.args.item.0 + 24)) ++ (bound_rule c.args.set.now c.args.left c.args.right c.args.item.0 (slice_get c.args.ages.now c.args.item.0)))) from_2 step_1 in
    from_1
