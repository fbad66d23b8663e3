use Rattle.std.proofs.Common.{ℕ, ap, ◌∙◌, codes, ◌++◌, ◌-◌, ◌≡◌}
use Rattle.picture_text.proofs.Sums.{back}
use Rattle.picture_command.specs.Page.{closing, cut, lower, opening}
use Rattle.schedule_marks.specs.Svg.{rect}
use Rattle.picture_text.specs.Texts.{titles_text, whole_height}
use Rattle.picture_command.proofs.figure.add_names_part.Goals as goal

pub returns : goal.returns
returns c =
    let step_1 : c.add_opening.new.into.items ≡ c.args.into.now.items ++ (opening (codes "class='names' aria-label='names'") 0 lower (cut c.args.left) (whole_height c.args.set.now - lower)) =
    c.in_ok-add_opening.ensures ∙ (ap (λ (v : ℕ). c.args.into.now.items ++ opening (codes "class='names' aria-label='names'") 0 lower v c.lower_height-height.result) c.cut-width.ensures ∙ ap (λ (v : ℕ). c.args.into.now.items ++ opening (codes "class='names' aria-label='names'") 0 lower (cut c.args.left) v) c.lower_height-height.ensures) in
    let step_2 : c.add_rect.new.into.items ≡ c.add_opening.new.into.items ++ (rect (codes "bg") 0 lower (cut c.args.left) (whole_height c.args.set.now - lower)) =
    c.in_ok-add_rect.ensures ∙ (ap (λ (v : ℕ). c.add_opening.new.into.items ++ rect (codes "bg") 0 lower v c.lower_height-height.result) c.cut-width.ensures ∙ ap (λ (v : ℕ). c.add_opening.new.into.items ++ rect (codes "bg") 0 lower (cut c.args.left) v) c.lower_height-height.ensures) in
    let step_3 : c.add_titles.new.into.items ≡ c.add_rect.new.into.items ++ (titles_text c.args.names.now c.args.set.now c.args.left c.args.ages.now) = c.in_ok-add_titles.ensures in
    let step_4 : c.add_closing.new.into.items ≡ c.add_titles.new.into.items ++ (closing) = c.in_ok-add_closing.ensures in
    let from_3 : c.add_closing.new.into.items ≡ c.add_rect.new.into.items ++ ((titles_text c.args.names.now c.args.set.now c.args.left c.args.ages.now) ++ (closing)) =
    back c.add_closing.new.into.items c.add_titles.new.into.items c.add_rect.new.into.items (titles_text c.args.names.now c.args.set.now c.args.left c.args.ages.now) (closing) step_4 step_3 in
    let from_2 : c.add_closing.new.into.items ≡ c.add_opening.new.into.items ++ ((rect (codes "bg") 0 lower (cut c.args.left) (whole_height c.args.set.now - lower)) ++ ((titles_text c.args.names.now c.args.set.now c.args.left c.args.ages.now) ++ (closing))) =
    back c.add_closing.new.into.items c.add_rect.new.into.items c.add_opening.new.into.items (rect (codes "bg") 0 lower (cut c.args.left) (whole_height c.args.set.now - lower)) ((titles_text c.args.names.now c.args.set.now c.args.left c.args.ages.now) ++ (closing)) from_3 step_2 in
    let from_1 : c.add_closing.new.into.items ≡ c.args.into.now.items ++ ((opening (codes "class='names' aria-label='names'") 0 lower (cut c.args.left) (whole_height c.args.set.now - lower)) ++ ((rect (codes "bg") 0 lower (cut c.args.left) (whole_height c.args.set.now - lower)) ++ ((titles_text c.args.names.now c.args.set.now c.args.left c.args.ages.now) ++ (closing)))) =
    back c.add_closing.new.into.items c.add_opening.new.into.items c.args.into.now.items (opening (codes "class='names' aria-label='names'") 0 lower (cut c.args.left) (whole_height c.args.set.now - lower)) ((rect (codes "bg") 0 lower (cut c.args.left) (whole_height c.args.set.now - lower)) ++ ((titles_text c.args.names.now c.args.set.now c.args.left c.args.ages.now) ++ (closing))) from_2 step_1 in
    from_1
