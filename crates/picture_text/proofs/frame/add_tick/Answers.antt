use Rattle.std.proofs.Common.{[], codes, decimal, rules, ◌++◌, ◌-◌, ◌≡◌}
use Rattle.schedule_marks.specs.Svg.{line, words}
use Rattle.picture_text.proofs.Sums.{back}
use Rattle.picture_text.proofs.frame.add_tick.Goals as goal

pub returns : goal.returns
returns c =
    let step_1 : c.add_line.new.into.items ≡ c.args.into.now.items ++ (line (codes "g") c.args.x 96 c.args.x (c.args.bottom - 20)) = search rules in
    let step_2 : c.add_count.new.into.items ≡ c.add_line.new.into.items ++ (words (codes "s m") c.args.x (c.args.top - 8) [] (decimal c.args.tick)) = search rules in
    let step_3 : c.add_count-2.new.into.items ≡ c.add_count.new.into.items ++ (words (codes "s m") c.args.x (c.args.bottom - 8) [] (decimal c.args.tick)) = search rules in
    let from_2 : c.add_count-2.new.into.items ≡ c.add_line.new.into.items ++ ((words (codes "s m") c.args.x (c.args.top - 8) [] (decimal c.args.tick)) ++ (words (codes "s m") c.args.x (c.args.bottom - 8) [] (decimal c.args.tick))) =
    back c.add_count-2.new.into.items c.add_count.new.into.items c.add_line.new.into.items (words (codes "s m") c.args.x (c.args.top - 8) [] (decimal c.args.tick)) (words (codes "s m") c.args.x (c.args.bottom - 8) [] (decimal c.args.tick)) step_3 step_2 in
    let from_1 : c.add_count-2.new.into.items ≡ c.args.into.now.items ++ ((line (codes "g") c.args.x 96 c.args.x (c.args.bottom - 20)) ++ ((words (codes "s m") c.args.x (c.args.top - 8) [] (decimal c.args.tick)) ++ (words (codes "s m") c.args.x (c.args.bottom - 8) [] (decimal c.args.tick)))) =
    back c.add_count-2.new.into.items c.add_line.new.into.items c.args.into.now.items (line (codes "g") c.args.x 96 c.args.x (c.args.bottom - 20)) ((words (codes "s m") c.args.x (c.args.top - 8) [] (decimal c.args.tick)) ++ (words (codes "s m") c.args.x (c.args.bottom - 8) [] (decimal c.args.tick))) from_2 step_1 in
    from_1
