use Rattle.std.proofs.Common.{codes, ◌++◌, ◌≡◌}
use Rattle.schedule_marks.specs.Svg.{counted}
use Rattle.picture_text.proofs.Sums.{back}
use Rattle.picture_command.proofs.figure.add_opening.Goals as goal

pub returns : goal.returns
returns c =
    let from_8 : c.add-3.new.into.items ≡ c.add_number-5.new.into.items ++ ((counted (codes " ") c.args.height) ++ (codes "'>\n")) =
    back c.add-3.new.into.items c.add_number-6.new.into.items c.add_number-5.new.into.items (counted (codes " ") c.args.height) (codes "'>\n") c.in_ok-add-3.ensures c.in_ok-add_number-6.ensures in
    let from_7 : c.add-3.new.into.items ≡ c.add_number-4.new.into.items ++ ((counted (codes " ") c.args.width) ++ ((counted (codes " ") c.args.height) ++ (codes "'>\n"))) =
    back c.add-3.new.into.items c.add_number-5.new.into.items c.add_number-4.new.into.items (counted (codes " ") c.args.width) ((counted (codes " ") c.args.height) ++ (codes "'>\n")) from_8 c.in_ok-add_number-5.ensures in
    let from_6 : c.add-3.new.into.items ≡ c.add_number-3.new.into.items ++ ((counted (codes " ") c.args.y) ++ ((counted (codes " ") c.args.width) ++ ((counted (codes " ") c.args.height) ++ (codes "'>\n")))) =
    back c.add-3.new.into.items c.add_number-4.new.into.items c.add_number-3.new.into.items (counted (codes " ") c.args.y) ((counted (codes " ") c.args.width) ++ ((counted (codes " ") c.args.height) ++ (codes "'>\n"))) from_7 c.in_ok-add_number-4.ensures in
    let from_5 : c.add-3.new.into.items ≡ c.add_number-2.new.into.items ++ ((counted (codes "' viewBox='") c.args.x) ++ ((counted (codes " ") c.args.y) ++ ((counted (codes " ") c.args.width) ++ ((counted (codes " ") c.args.height) ++ (codes "'>\n"))))) =
    back c.add-3.new.into.items c.add_number-3.new.into.items c.add_number-2.new.into.items (counted (codes "' viewBox='") c.args.x) ((counted (codes " ") c.args.y) ++ ((counted (codes " ") c.args.width) ++ ((counted (codes " ") c.args.height) ++ (codes "'>\n")))) from_6 c.in_ok-add_number-3.ensures in
    let from_4 : c.add-3.new.into.items ≡ c.add_number.new.into.items ++ ((counted (codes "' height='") c.args.height) ++ ((counted (codes "' viewBox='") c.args.x) ++ ((counted (codes " ") c.args.y) ++ ((counted (codes " ") c.args.width) ++ ((counted (codes " ") c.args.height) ++ (codes "'>\n")))))) =
    back c.add-3.new.into.items c.add_number-2.new.into.items c.add_number.new.into.items (counted (codes "' height='") c.args.height) ((counted (codes "' viewBox='") c.args.x) ++ ((counted (codes " ") c.args.y) ++ ((counted (codes " ") c.args.width) ++ ((counted (codes " ") c.args.height) ++ (codes "'>\n"))))) from_5 c.in_ok-add_number-2.ensures in
    let from_3 : c.add-3.new.into.items ≡ c.add-2.new.into.items ++ ((counted (codes " width='") c.args.width) ++ ((counted (codes "' height='") c.args.height) ++ ((counted (codes "' viewBox='") c.args.x) ++ ((counted (codes " ") c.args.y) ++ ((counted (codes " ") c.args.width) ++ ((counted (codes " ") c.args.height) ++ (codes "'>\n"))))))) =
    back c.add-3.new.into.items c.add_number.new.into.items c.add-2.new.into.items (counted (codes " width='") c.args.width) ((counted (codes "' height='") c.args.height) ++ ((counted (codes "' viewBox='") c.args.x) ++ ((counted (codes " ") c.args.y) ++ ((counted (codes " ") c.args.width) ++ ((counted (codes " ") c.args.height) ++ (codes "'>\n")))))) from_4 c.in_ok-add_number.ensures in
    let from_2 : c.add-3.new.into.items ≡ c.add.new.into.items ++ ((c.args.what.now) ++ ((counted (codes " width='") c.args.width) ++ ((counted (codes "' height='") c.args.height) ++ ((counted (codes "' viewBox='") c.args.x) ++ ((counted (codes " ") c.args.y) ++ ((counted (codes " ") c.args.width) ++ ((counted (codes " ") c.args.height) ++ (codes "'>\n")))))))) =
    back c.add-3.new.into.items c.add-2.new.into.items c.add.new.into.items (c.args.what.now) ((counted (codes " width='") c.args.width) ++ ((counted (codes "' height='") c.args.height) ++ ((counted (codes "' viewBox='") c.args.x) ++ ((counted (codes " ") c.args.y) ++ ((counted (codes " ") c.args.width) ++ ((counted (codes " ") c.args.height) ++ (codes "'>\n"))))))) from_3 c.in_ok-add-2.ensures in
    let from_1 : c.add-3.new.into.items ≡ c.args.into.now.items ++ ((codes "<svg xmlns='http://www.w3.org/2000/svg' role='img' ") ++ ((c.args.what.now) ++ ((counted (codes " width='") c.args.width) ++ ((counted (codes "' height='") c.args.height) ++ ((counted (codes "' viewBox='") c.args.x) ++ ((counted (codes " ") c.args.y) ++ ((counted (codes " ") c.args.width) ++ ((counted (codes " ") c.args.height) ++ (codes "'>\n"))))))))) =
    back c.add-3.new.into.items c.add.new.into.items c.args.into.now.items (codes "<svg xmlns='http://www.w3.org/2000/svg' role='img' ") ((c.args.what.now) ++ ((counted (codes " width='") c.args.width) ++ ((counted (codes "' height='") c.args.height) ++ ((counted (codes "' viewBox='") c.args.x) ++ ((counted (codes " ") c.args.y) ++ ((counted (codes " ") c.args.width) ++ ((counted (codes " ") c.args.height) ++ (codes "'>\n")))))))) from_2 c.in_ok-add.ensures in
    from_1
