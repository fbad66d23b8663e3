use Rattle.std.proofs.Common.{codes, ◌++◌, ◌≡◌}
use Rattle.schedule_marks.specs.Svg.{counted}
use Rattle.picture_text.proofs.Sums.{back}
use Rattle.picture_text.proofs.frame.add_head.Goals as goal

pub returns : goal.returns
returns c =
    let from_4 : c.add.new.into.items ≡ c.add_number-3.new.into.items ++ ((counted (codes " ") c.args.height) ++ (codes "'>\n")) =
    back c.add.new.into.items c.add_number-4.new.into.items c.add_number-3.new.into.items (counted (codes " ") c.args.height) (codes "'>\n") c.in_ok-add.ensures c.in_ok-add_number-4.ensures in
    let from_3 : c.add.new.into.items ≡ c.add_number-2.new.into.items ++ ((counted (codes "' viewBox='0 0 ") c.args.width) ++ ((counted (codes " ") c.args.height) ++ (codes "'>\n"))) =
    back c.add.new.into.items c.add_number-3.new.into.items c.add_number-2.new.into.items (counted (codes "' viewBox='0 0 ") c.args.width) ((counted (codes " ") c.args.height) ++ (codes "'>\n")) from_4 c.in_ok-add_number-3.ensures in
    let from_2 : c.add.new.into.items ≡ c.add_number.new.into.items ++ ((counted (codes "' height='") c.args.height) ++ ((counted (codes "' viewBox='0 0 ") c.args.width) ++ ((counted (codes " ") c.args.height) ++ (codes "'>\n")))) =
    back c.add.new.into.items c.add_number-2.new.into.items c.add_number.new.into.items (counted (codes "' height='") c.args.height) ((counted (codes "' viewBox='0 0 ") c.args.width) ++ ((counted (codes " ") c.args.height) ++ (codes "'>\n"))) from_3 c.in_ok-add_number-2.ensures in
    let from_1 : c.add.new.into.items ≡ c.args.into.now.items ++ ((counted (codes "<svg xmlns='http://www.w3.org/2000/svg' role='img' aria-labelledby='about more' width='") c.args.width) ++ ((counted (codes "' height='") c.args.height) ++ ((counted (codes "' viewBox='0 0 ") c.args.width) ++ ((counted (codes " ") c.args.height) ++ (codes "'>\n"))))) =
    back c.add.new.into.items c.add_number.new.into.items c.args.into.now.items (counted (codes "<svg xmlns='http://www.w3.org/2000/svg' role='img' aria-labelledby='about more' width='") c.args.width) ((counted (codes "' height='") c.args.height) ++ ((counted (codes "' viewBox='0 0 ") c.args.width) ++ ((counted (codes " ") c.args.height) ++ (codes "'>\n")))) from_2 c.in_ok-add_number.ensures in
    from_1
