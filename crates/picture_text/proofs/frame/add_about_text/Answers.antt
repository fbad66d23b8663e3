use Rattle.std.proofs.Common.{codes, ◌++◌, ◌≡◌}
use Rattle.schedule_marks.specs.Svg.{counted}
use Rattle.picture_text.proofs.Sums.{back}
use Rattle.picture_text.proofs.frame.add_about_text.Goals as goal

pub returns : goal.returns
returns c =
    let from_3 : c.add.new.into.items ≡ c.add_number-2.new.into.items ++ ((counted (codes "</title>\n<desc id='more'>A row for each of ") c.args.count) ++ (codes " transactions, in falling priority; time goes from left to right.</desc>\n")) =
    back c.add.new.into.items c.add_number-3.new.into.items c.add_number-2.new.into.items (counted (codes "</title>\n<desc id='more'>A row for each of ") c.args.count) (codes " transactions, in falling priority; time goes from left to right.</desc>\n") c.in_ok-add.ensures c.in_ok-add_number-3.ensures in
    let from_2 : c.add.new.into.items ≡ c.add_number.new.into.items ++ ((counted (codes " to tick ") c.args.to) ++ ((counted (codes "</title>\n<desc id='more'>A row for each of ") c.args.count) ++ (codes " transactions, in falling priority; time goes from left to right.</desc>\n"))) =
    back c.add.new.into.items c.add_number-2.new.into.items c.add_number.new.into.items (counted (codes " to tick ") c.args.to) ((counted (codes "</title>\n<desc id='more'>A row for each of ") c.args.count) ++ (codes " transactions, in falling priority; time goes from left to right.</desc>\n")) from_3 c.in_ok-add_number-2.ensures in
    let from_1 : c.add.new.into.items ≡ c.args.into.now.items ++ ((counted (codes "<title id='about'>Schedule from tick ") c.args.from) ++ ((counted (codes " to tick ") c.args.to) ++ ((counted (codes "</title>\n<desc id='more'>A row for each of ") c.args.count) ++ (codes " transactions, in falling priority; time goes from left to right.</desc>\n")))) =
    back c.add.new.into.items c.add_number.new.into.items c.args.into.now.items (counted (codes "<title id='about'>Schedule from tick ") c.args.from) ((counted (codes " to tick ") c.args.to) ++ ((counted (codes "</title>\n<desc id='more'>A row for each of ") c.args.count) ++ (codes " transactions, in falling priority; time goes from left to right.</desc>\n"))) from_2 c.in_ok-add_number.ensures in
    from_1
