use Rattle.std.proofs.Common.{[], codes, decimal, ◌++◌, ◌+◌, ◌≡◌}
use Rattle.schedule_marks.specs.Svg.{line, words}
use Rattle.picture_text.proofs.Sums.{back}
use Rattle.picture_text.proofs.titles.add_title.Goals as goal

pub returns : goal.returns
returns c =
    let from_2 : c.add_count.new.into.items ≡ c.add_line.new.into.items ++ ((words (codes "n") 10 (c.args.y + 18) c.args.name.now []) ++ (words (codes "s") 10 (c.args.y + 34) (codes "priority ") (decimal c.args.prio))) =
    back c.add_count.new.into.items c.add_words.new.into.items c.add_line.new.into.items (words (codes "n") 10 (c.args.y + 18) c.args.name.now []) (words (codes "s") 10 (c.args.y + 34) (codes "priority ") (decimal c.args.prio)) c.in_ok-add_count.ensures c.in_ok-add_words.ensures in
    let from_1 : c.add_count.new.into.items ≡ c.args.into.now.items ++ ((line (codes "b") 0 c.args.y c.args.left c.args.y) ++ ((words (codes "n") 10 (c.args.y + 18) c.args.name.now []) ++ (words (codes "s") 10 (c.args.y + 34) (codes "priority ") (decimal c.args.prio)))) =
    back c.add_count.new.into.items c.add_line.new.into.items c.args.into.now.items (line (codes "b") 0 c.args.y c.args.left c.args.y) ((words (codes "n") 10 (c.args.y + 18) c.args.name.now []) ++ (words (codes "s") 10 (c.args.y + 34) (codes "priority ") (decimal c.args.prio))) from_2 c.in_ok-add_line.ensures in
    from_1
