use Rattle.std.proofs.Common.{ℕ, ap, ◌∙◌, codes, rules, ◌++◌, ◌≡◌}
use Rattle.picture_text.specs.Texts.{body_text, sheet, titles_text, whole_height, whole_width}
use Rattle.picture_text.proofs.Sums.{back}
use Rattle.picture_text.proofs.whole.add_picture.Goals as goal

pub returns : goal.returns
returns c =
    let step_1 : c.add_sheet.new.into.items ≡ c.args.into.now.items ++ (sheet c.args.set.now c.args.view.part (whole_width c.args.view) (whole_height c.args.set.now)) =
    c.in_ok-add_sheet.ensures
    ∙ (ap (λ (w : ℕ). c.args.into.now.items ++ sheet c.args.set.now c.args.view.part w c.full_height.result) c.full_width.ensures
    ∙ ap (λ (h : ℕ). c.args.into.now.items ++ sheet c.args.set.now c.args.view.part (whole_width c.args.view) h) c.full_height.ensures.value) in
    let step_2 : c.add_body.new.into.items ≡ c.add_sheet.new.into.items ++ (body_text c.args.names.now c.args.set.now c.args.view c.args.ages.now c.args.shown.now) = search rules in
    let step_3 : c.add_titles.new.into.items ≡ c.add_body.new.into.items ++ (titles_text c.args.names.now c.args.set.now c.args.view.left c.args.ages.now) = search rules in
    let step_4 : c.add.new.into.items ≡ c.add_titles.new.into.items ++ (codes "</svg>\n") = search rules in
    let from_3 : c.add.new.into.items ≡ c.add_body.new.into.items ++ ((titles_text c.args.names.now c.args.set.now c.args.view.left c.args.ages.now) ++ (codes "</svg>\n")) =
    back c.add.new.into.items c.add_titles.new.into.items c.add_body.new.into.items (titles_text c.args.names.now c.args.set.now c.args.view.left c.args.ages.now) (codes "</svg>\n") step_4 step_3 in
    let from_2 : c.add.new.into.items ≡ c.add_sheet.new.into.items ++ ((body_text c.args.names.now c.args.set.now c.args.view c.args.ages.now c.args.shown.now) ++ ((titles_text c.args.names.now c.args.set.now c.args.view.left c.args.ages.now) ++ (codes "</svg>\n"))) =
    back c.add.new.into.items c.add_body.new.into.items c.add_sheet.new.into.items (body_text c.args.names.now c.args.set.now c.args.view c.args.ages.now c.args.shown.now) ((titles_text c.args.names.now c.args.set.now c.args.view.left c.args.ages.now) ++ (codes "</svg>\n")) from_3 step_2 in
    let from_1 : c.add.new.into.items ≡ c.args.into.now.items ++ ((sheet c.args.set.now c.args.view.part (whole_width c.args.view) (whole_height c.args.set.now)) ++ ((body_text c.args.names.now c.args.set.now c.args.view c.args.ages.now c.args.shown.now) ++ ((titles_text c.args.names.now c.args.set.now c.args.view.left c.args.ages.now) ++ (codes "</svg>\n")))) =
    back c.add.new.into.items c.add_sheet.new.into.items c.args.into.now.items (sheet c.args.set.now c.args.view.part (whole_width c.args.view) (whole_height c.args.set.now)) ((body_text c.args.names.now c.args.set.now c.args.view c.args.ages.now c.args.shown.now) ++ ((titles_text c.args.names.now c.args.set.now c.args.view.left c.args.ages.now) ++ (codes "</svg>\n"))) from_2 step_1 in
    from_1
