use Rattle.std.proofs.Common.{codes, ◌++◌, ◌≡◌}
use Rattle.picture_text.proofs.Sums.{back}
use Rattle.picture_command.specs.Page.{body_part, legend_part, names_part}
use Rattle.picture_command.proofs.figure.add_figure.Goals as goal

pub returns : goal.returns
returns c =
    let from_4 : c.add-2.new.into.items ≡ c.add_names_part.new.into.items ++ ((body_part c.args.names.now c.args.set.now c.args.view c.args.ages.now c.args.shown.now) ++ (codes "</div>\n")) =
    back c.add-2.new.into.items c.add_body_part.new.into.items c.add_names_part.new.into.items (body_part c.args.names.now c.args.set.now c.args.view c.args.ages.now c.args.shown.now) (codes "</div>\n") c.in_ok-add-2.ensures c.in_ok-add_body_part.ensures in
    let from_3 : c.add-2.new.into.items ≡ c.add.new.into.items ++ ((names_part c.args.names.now c.args.set.now c.args.view.left c.args.ages.now) ++ ((body_part c.args.names.now c.args.set.now c.args.view c.args.ages.now c.args.shown.now) ++ (codes "</div>\n"))) =
    back c.add-2.new.into.items c.add_names_part.new.into.items c.add.new.into.items (names_part c.args.names.now c.args.set.now c.args.view.left c.args.ages.now) ((body_part c.args.names.now c.args.set.now c.args.view c.args.ages.now c.args.shown.now) ++ (codes "</div>\n")) from_4 c.in_ok-add_names_part.ensures in
    let from_2 : c.add-2.new.into.items ≡ c.add_legend_part.new.into.items ++ ((codes "<div class='view' tabindex='0'>\n") ++ ((names_part c.args.names.now c.args.set.now c.args.view.left c.args.ages.now) ++ ((body_part c.args.names.now c.args.set.now c.args.view c.args.ages.now c.args.shown.now) ++ (codes "</div>\n")))) =
    back c.add-2.new.into.items c.add.new.into.items c.add_legend_part.new.into.items (codes "<div class='view' tabindex='0'>\n") ((names_part c.args.names.now c.args.set.now c.args.view.left c.args.ages.now) ++ ((body_part c.args.names.now c.args.set.now c.args.view c.args.ages.now c.args.shown.now) ++ (codes "</div>\n"))) from_3 c.in_ok-add.ensures in
    let from_1 : c.add-2.new.into.items ≡ c.args.into.now.items ++ ((legend_part) ++ ((codes "<div class='view' tabindex='0'>\n") ++ ((names_part c.args.names.now c.args.set.now c.args.view.left c.args.ages.now) ++ ((body_part c.args.names.now c.args.set.now c.args.view c.args.ages.now c.args.shown.now) ++ (codes "</div>\n"))))) =
    back c.add-2.new.into.items c.add_legend_part.new.into.items c.args.into.now.items (legend_part) ((codes "<div class='view' tabindex='0'>\n") ++ ((names_part c.args.names.now c.args.set.now c.args.view.left c.args.ages.now) ++ ((body_part c.args.names.now c.args.set.now c.args.view c.args.ages.now c.args.shown.now) ++ (codes "</div>\n")))) from_2 c.in_ok-add_legend_part.ensures in
    from_1
