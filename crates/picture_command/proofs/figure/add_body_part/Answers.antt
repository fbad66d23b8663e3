use Rattle.std.proofs.Common.{ℕ, ap, ◌∙◌, codes, ◌++◌, ◌-◌, ◌≡◌}
use Rattle.picture_text.proofs.Sums.{back}
use Rattle.picture_command.specs.Page.{closing, cut, lower, opening, rest_width}
use Rattle.schedule_marks.specs.Svg.{rect}
use Rattle.picture_text.specs.Texts.{about, body_text, whole_height}
use Rattle.picture_command.proofs.figure.add_body_part.Goals as goal

pub returns : goal.returns
returns c =
    let step_1 : c.add_opening.new.into.items ≡ c.args.into.now.items ++ (opening (codes "aria-labelledby='about more'") (cut c.args.view.left) lower (rest_width c.args.view) (whole_height c.args.set.now - lower)) =
    c.in_ok-add_opening.ensures ∙ (ap (λ (v : ℕ). c.args.into.now.items ++ opening (codes "aria-labelledby='about more'") v lower c.width_of_rest-width.result c.lower_height-height.result) c.cut-left.ensures ∙ (ap (λ (v : ℕ). c.args.into.now.items ++ opening (codes "aria-labelledby='about more'") (cut c.args.view.left) lower v c.lower_height-height.result) c.width_of_rest-width.ensures ∙ ap (λ (v : ℕ). c.args.into.now.items ++ opening (codes "aria-labelledby='about more'") (cut c.args.view.left) lower (rest_width c.args.view) v) c.lower_height-height.ensures)) in
    let step_2 : c.add_about.new.into.items ≡ c.add_opening.new.into.items ++ (about c.args.set.now c.args.view.part) = c.in_ok-add_about.ensures in
    let step_3 : c.add_rect.new.into.items ≡ c.add_about.new.into.items ++ (rect (codes "bg") (cut c.args.view.left) lower (rest_width c.args.view) (whole_height c.args.set.now - lower)) =
    c.in_ok-add_rect.ensures ∙ (ap (λ (v : ℕ). c.add_about.new.into.items ++ rect (codes "bg") v lower c.width_of_rest-width.result c.lower_height-height.result) c.cut-left.ensures ∙ (ap (λ (v : ℕ). c.add_about.new.into.items ++ rect (codes "bg") (cut c.args.view.left) lower v c.lower_height-height.result) c.width_of_rest-width.ensures ∙ ap (λ (v : ℕ). c.add_about.new.into.items ++ rect (codes "bg") (cut c.args.view.left) lower (rest_width c.args.view) v) c.lower_height-height.ensures)) in
    let step_4 : c.add_body.new.into.items ≡ c.add_rect.new.into.items ++ (body_text c.args.names.now c.args.set.now c.args.view c.args.ages.now c.args.shown.now) = c.in_ok-add_body.ensures in
    let step_5 : c.add_closing.new.into.items ≡ c.add_body.new.into.items ++ (closing) = c.in_ok-add_closing.ensures in
    let from_4 : c.add_closing.new.into.items ≡ c.add_rect.new.into.items ++ ((body_text c.args.names.now c.args.set.now c.args.view c.args.ages.now c.args.shown.now) ++ (closing)) =
    back c.add_closing.new.into.items c.add_body.new.into.items c.add_rect.new.into.items (body_text c.args.names.now c.args.set.now c.args.view c.args.ages.now c.args.shown.now) (closing) step_5 step_4 in
    let from_3 : c.add_closing.new.into.items ≡ c.add_about.new.into.items ++ ((rect (codes "bg") (cut c.args.view.left) lower (rest_width c.args.view) (whole_height c.args.set.now - lower)) ++ ((body_text c.args.names.now c.args.set.now c.args.view c.args.ages.now c.args.shown.now) ++ (closing))) =
    back c.add_closing.new.into.items c.add_rect.new.into.items c.add_about.new.into.items (rect (codes "bg") (cut c.args.view.left) lower (rest_width c.args.view) (whole_height c.args.set.now - lower)) ((body_text c.args.names.now c.args.set.now c.args.view c.args.ages.now c.args.shown.now) ++ (closing)) from_4 step_3 in
    let from_2 : c.add_closing.new.into.items ≡ c.add_opening.new.into.items ++ ((about c.args.set.now c.args.view.part) ++ ((rect (codes "bg") (cut c.args.view.left) lower (rest_width c.args.view) (whole_height c.args.set.now - lower)) ++ ((body_text c.args.names.now c.args.set.now c.args.view c.args.ages.now c.args.shown.now) ++ (closing)))) =
    back c.add_closing.new.into.items c.add_about.new.into.items c.add_opening.new.into.items (about c.args.set.now c.args.view.part) ((rect (codes "bg") (cut c.args.view.left) lower (rest_width c.args.view) (whole_height c.args.set.now - lower)) ++ ((body_text c.args.names.now c.args.set.now c.args.view c.args.ages.now c.args.shown.now) ++ (closing))) from_3 step_2 in
    let from_1 : c.add_closing.new.into.items ≡ c.args.into.now.items ++ ((opening (codes "aria-labelledby='about more'") (cut c.args.view.left) lower (rest_width c.args.view) (whole_height c.args.set.now - lower)) ++ ((about c.args.set.now c.args.view.part) ++ ((rect (codes "bg") (cut c.args.view.left) lower (rest_width c.args.view) (whole_height c.args.set.now - lower)) ++ ((body_text c.args.names.now c.args.set.now c.args.view c.args.ages.now c.args.shown.now) ++ (closing))))) =
    back c.add_closing.new.into.items c.add_opening.new.into.items c.args.into.now.items (opening (codes "aria-labelledby='about more'") (cut c.args.view.left) lower (rest_width c.args.view) (whole_height c.args.set.now - lower)) ((about c.args.set.now c.args.view.part) ++ ((rect (codes "bg") (cut c.args.view.left) lower (rest_width c.args.view) (whole_height c.args.set.now - lower)) ++ ((body_text c.args.names.now c.args.set.now c.args.view c.args.ages.now c.args.shown.now) ++ (closing)))) from_2 step_1 in
    from_1
