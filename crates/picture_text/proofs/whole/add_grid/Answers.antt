use Rattle.std.proofs.Common.{length, rules, ◌++◌, ◌≡◌}
use Rattle.picture_text.specs.Ages.{dated_text, lane_text}
use Rattle.picture_text.specs.Texts.{numbers_text, right, rows_text}
use Rattle.picture_text.proofs.Sums.{back}
use Rattle.picture_text.proofs.whole.add_grid.Goals as goal

pub returns : goal.returns
returns c =
    let step_1 : c.add_numbers.new.into.items ≡ c.args.into.now.items ++ (numbers_text c.args.set.now c.args.view) = search rules in
    let step_2 : c.add_rows.new.into.items ≡ c.add_numbers.new.into.items ++ (rows_text c.args.set.now c.args.view) = search rules in
    let step_3 : c.add_lanes.new.into.items ≡ c.add_rows.new.into.items ++ (dated_text c.args.set.now (lane_text c.args.set.now c.args.view.left (right c.args.view) c.args.ages.now) (length c.args.set.now.items)) = search rules in
    let from_2 : c.add_lanes.new.into.items ≡ c.add_numbers.new.into.items ++ ((rows_text c.args.set.now c.args.view) ++ (dated_text c.args.set.now (lane_text c.args.set.now c.args.view.left (right c.args.view) c.args.ages.now) (length c.args.set.now.items))) =
    back c.add_lanes.new.into.items c.add_rows.new.into.items c.add_numbers.new.into.items (rows_text c.args.set.now c.args.view) (dated_text c.args.set.now (lane_text c.args.set.now c.args.view.left (right c.args.view) c.args.ages.now) (length c.args.set.now.items)) step_3 step_2 in
    let from_1 : c.add_lanes.new.into.items ≡ c.args.into.now.items ++ ((numbers_text c.args.set.now c.args.view) ++ ((rows_text c.args.set.now c.args.view) ++ (dated_text c.args.set.now (lane_text c.args.set.now c.args.view.left (right c.args.view) c.args.ages.now) (length c.args.set.now.items)))) =
    back c.add_lanes.new.into.items c.add_numbers.new.into.items c.args.into.now.items (numbers_text c.args.set.now c.args.view) ((rows_text c.args.set.now c.args.view) ++ (dated_text c.args.set.now (lane_text c.args.set.now c.args.view.left (right c.args.view) c.args.ages.now) (length c.args.set.now.items))) from_2 step_1 in
    from_1
