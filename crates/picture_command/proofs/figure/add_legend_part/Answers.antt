use Rattle.std.proofs.Common.{codes, ◌++◌, ◌≡◌}
use Rattle.picture_text.proofs.Sums.{back}
use Rattle.picture_command.specs.Page.{closing, lower, opening}
use Rattle.schedule_marks.specs.Svg.{rect}
use Rattle.picture_text.specs.Legend.{arrows, legend, style}
use Rattle.picture_command.proofs.figure.add_legend_part.Goals as goal

pub returns : goal.returns
returns c =
    let from_5 : c.add_closing.new.into.items ≡ c.add_rect.new.into.items ++ ((legend) ++ (closing)) =
    back c.add_closing.new.into.items c.add_legend.new.into.items c.add_rect.new.into.items (legend) (closing) c.in_ok-add_closing.ensures c.in_ok-add_legend.ensures in
    let from_4 : c.add_closing.new.into.items ≡ c.add_arrows.new.into.items ++ ((rect (codes "bg") 0 0 900 lower) ++ ((legend) ++ (closing))) =
    back c.add_closing.new.into.items c.add_rect.new.into.items c.add_arrows.new.into.items (rect (codes "bg") 0 0 900 lower) ((legend) ++ (closing)) from_5 c.in_ok-add_rect.ensures in
    let from_3 : c.add_closing.new.into.items ≡ c.add_style.new.into.items ++ ((arrows) ++ ((rect (codes "bg") 0 0 900 lower) ++ ((legend) ++ (closing)))) =
    back c.add_closing.new.into.items c.add_arrows.new.into.items c.add_style.new.into.items (arrows) ((rect (codes "bg") 0 0 900 lower) ++ ((legend) ++ (closing))) from_4 c.in_ok-add_arrows.ensures in
    let from_2 : c.add_closing.new.into.items ≡ c.add_opening.new.into.items ++ ((style) ++ ((arrows) ++ ((rect (codes "bg") 0 0 900 lower) ++ ((legend) ++ (closing))))) =
    back c.add_closing.new.into.items c.add_style.new.into.items c.add_opening.new.into.items (style) ((arrows) ++ ((rect (codes "bg") 0 0 900 lower) ++ ((legend) ++ (closing)))) from_3 c.in_ok-add_style.ensures in
    let from_1 : c.add_closing.new.into.items ≡ c.args.into.now.items ++ ((opening (codes "aria-label='legend'") 0 0 900 lower) ++ ((style) ++ ((arrows) ++ ((rect (codes "bg") 0 0 900 lower) ++ ((legend) ++ (closing)))))) =
    back c.add_closing.new.into.items c.add_opening.new.into.items c.args.into.now.items (opening (codes "aria-label='legend'") 0 0 900 lower) ((style) ++ ((arrows) ++ ((rect (codes "bg") 0 0 900 lower) ++ ((legend) ++ (closing))))) from_2 c.in_ok-add_opening.ensures in
    from_1
