use Rattle.std.proofs.Common.{codes, ◌++◌, ◌≡◌}
use Rattle.schedule_marks.specs.Svg.{counted}
use Rattle.picture_text.proofs.Sums.{back}
use Rattle.picture_command.proofs.whole.add_title.Goals as goal

pub returns : goal.returns
returns c =
    let from_2 : c.add.new.into.items ≡ c.add_number.new.into.items ++ ((counted (codes " to tick ") c.args.part.to) ++ (codes "</title>\n")) =
    back c.add.new.into.items c.add_number-2.new.into.items c.add_number.new.into.items (counted (codes " to tick ") c.args.part.to) (codes "</title>\n") c.in_ok-add.ensures c.in_ok-add_number-2.ensures in
    let from_1 : c.add.new.into.items ≡ c.args.into.now.items ++ ((counted (codes "<title>Schedule from tick ") c.args.part.from) ++ ((counted (codes " to tick ") c.args.part.to) ++ (codes "</title>\n"))) =
    back c.add.new.into.items c.add_number.new.into.items c.args.into.now.items (counted (codes "<title>Schedule from tick ") c.args.part.from) ((counted (codes " to tick ") c.args.part.to) ++ (codes "</title>\n")) from_2 c.in_ok-add_number.ensures in
    from_1
