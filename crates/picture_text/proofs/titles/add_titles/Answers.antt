use Rattle.std.proofs.Common.{length, ◌++◌, ◌≡◌}
use Rattle.picture_text.specs.Ages.{lane_title as age_title, dated_text}
use Rattle.picture_text.specs.Texts.{caption, row_titles}
use Rattle.picture_text.proofs.Sums.{back}
use Rattle.picture_text.proofs.titles.add_titles.Goals as goal

pub returns : goal.returns
returns c =
    let from_2 : c.add_age_titles.new.into.items ≡ c.add_caption.new.into.items ++ ((row_titles c.args.names.now c.args.set.now c.args.left) ++ (dated_text c.args.set.now (age_title c.args.names.now c.args.set.now c.args.left c.args.ages.now) (length c.args.set.now.items))) =
    back c.add_age_titles.new.into.items c.add_row_titles.new.into.items c.add_caption.new.into.items (row_titles c.args.names.now c.args.set.now c.args.left) (dated_text c.args.set.now (age_title c.args.names.now c.args.set.now c.args.left c.args.ages.now) (length c.args.set.now.items)) c.in_ok-add_age_titles.ensures c.in_ok-add_row_titles.ensures in
    let from_1 : c.add_age_titles.new.into.items ≡ c.args.into.now.items ++ ((caption c.args.set.now) ++ ((row_titles c.args.names.now c.args.set.now c.args.left) ++ (dated_text c.args.set.now (age_title c.args.names.now c.args.set.now c.args.left c.args.ages.now) (length c.args.set.now.items)))) =
    back c.add_age_titles.new.into.items c.add_caption.new.into.items c.args.into.now.items (caption c.args.set.now) ((row_titles c.args.names.now c.args.set.now c.args.left) ++ (dated_text c.args.set.now (age_title c.args.names.now c.args.set.now c.args.left c.args.ages.now) (length c.args.set.now.items))) from_2 c.in_ok-add_caption.ensures in
    from_1
