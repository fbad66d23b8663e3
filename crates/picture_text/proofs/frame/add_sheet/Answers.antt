use Rattle.std.proofs.Common.{◌++◌, ◌≡◌}
use Rattle.picture_text.specs.Legend.{arrows, legend, style}
use Rattle.picture_text.specs.Texts.{about, backdrop, head}
use Rattle.picture_text.proofs.Sums.{back}
use Rattle.picture_text.proofs.frame.add_sheet.Goals as goal

pub returns : goal.returns
returns c =
    let from_5 : c.add_legend.new.into.items ≡ c.add_arrows.new.into.items ++ ((backdrop c.args.width c.args.height) ++ (legend)) =
    back c.add_legend.new.into.items c.add_backdrop.new.into.items c.add_arrows.new.into.items (backdrop c.args.width c.args.height) (legend) c.in_ok-add_legend.ensures c.in_ok-add_backdrop.ensures in
    let from_4 : c.add_legend.new.into.items ≡ c.add_style.new.into.items ++ ((arrows) ++ ((backdrop c.args.width c.args.height) ++ (legend))) =
    back c.add_legend.new.into.items c.add_arrows.new.into.items c.add_style.new.into.items (arrows) ((backdrop c.args.width c.args.height) ++ (legend)) from_5 c.in_ok-add_arrows.ensures in
    let from_3 : c.add_legend.new.into.items ≡ c.add_about.new.into.items ++ ((style) ++ ((arrows) ++ ((backdrop c.args.width c.args.height) ++ (legend)))) =
    back c.add_legend.new.into.items c.add_style.new.into.items c.add_about.new.into.items (style) ((arrows) ++ ((backdrop c.args.width c.args.height) ++ (legend))) from_4 c.in_ok-add_style.ensures in
    let from_2 : c.add_legend.new.into.items ≡ c.add_head.new.into.items ++ ((about c.args.set.now c.args.part) ++ ((style) ++ ((arrows) ++ ((backdrop c.args.width c.args.height) ++ (legend))))) =
    back c.add_legend.new.into.items c.add_about.new.into.items c.add_head.new.into.items (about c.args.set.now c.args.part) ((style) ++ ((arrows) ++ ((backdrop c.args.width c.args.height) ++ (legend)))) from_3 c.in_ok-add_about.ensures in
    let from_1 : c.add_legend.new.into.items ≡ c.args.into.now.items ++ ((head c.args.width c.args.height) ++ ((about c.args.set.now c.args.part) ++ ((style) ++ ((arrows) ++ ((backdrop c.args.width c.args.height) ++ (legend)))))) =
    back c.add_legend.new.into.items c.add_head.new.into.items c.args.into.now.items (head c.args.width c.args.height) ((about c.args.set.now c.args.part) ++ ((style) ++ ((arrows) ++ ((backdrop c.args.width c.args.height) ++ (legend))))) from_2 c.in_ok-add_head.ensures in
    from_1
