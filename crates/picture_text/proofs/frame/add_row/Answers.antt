use Rattle.std.proofs.Common.{codes, rules, ◌++◌, ◌+◌, ◌≡◌}
use Rattle.schedule_marks.specs.Svg.{line}
use Rattle.picture_text.specs.Texts.{right}
use Rattle.picture_text.proofs.Sums.{back}
use Rattle.picture_text.proofs.frame.add_row.Goals as goal

pub returns : goal.returns
returns c =
    let step_1 : c.add_line.new.into.items ≡ c.args.into.now.items ++ (line (codes "b") c.args.view.left c.args.y (right c.args.view) c.args.y) = search rules in
    let step_2 : c.add_line-2.new.into.items ≡ c.add_line.new.into.items ++ (line (codes "h") c.args.view.left (c.args.y + 44) (right c.args.view) (c.args.y + 44)) = search rules in
    let step_3 : c.add_line-3.new.into.items ≡ c.add_line-2.new.into.items ++ (line (codes "g") c.args.view.left c.args.level (right c.args.view) c.args.level) = search rules in
    let from_2 : c.add_line-3.new.into.items ≡ c.add_line.new.into.items ++ ((line (codes "h") c.args.view.left (c.args.y + 44) (right c.args.view) (c.args.y + 44)) ++ (line (codes "g") c.args.view.left c.args.level (right c.args.view) c.args.level)) =
    back c.add_line-3.new.into.items c.add_line-2.new.into.items c.add_line.new.into.items (line (codes "h") c.args.view.left (c.args.y + 44) (right c.args.view) (c.args.y + 44)) (line (codes "g") c.args.view.left c.args.level (right c.args.view) c.args.level) step_3 step_2 in
    let from_1 : c.add_line-3.new.into.items ≡ c.args.into.now.items ++ ((line (codes "b") c.args.view.left c.args.y (right c.args.view) c.args.y) ++ ((line (codes "h") c.args.view.left (c.args.y + 44) (right c.args.view) (c.args.y + 44)) ++ (line (codes "g") c.args.view.left c.args.level (right c.args.view) c.args.level))) =
    back c.add_line-3.new.into.items c.add_line.new.into.items c.args.into.now.items (line (codes "b") c.args.view.left c.args.y (right c.args.view) c.args.y) ((line (codes "h") c.args.view.left (c.args.y + 44) (right c.args.view) (c.args.y + 44)) ++ (line (codes "g") c.args.view.left c.args.level (right c.args.view) c.args.level)) from_2 step_1 in
    from_1
