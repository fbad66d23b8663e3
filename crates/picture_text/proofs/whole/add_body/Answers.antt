use Rattle.std.proofs.Common.{rules, ◌++◌, ◌≡◌}
use Rattle.picture_text.specs.Ages.{ages_text, bounds_text}
use Rattle.picture_text.specs.Texts.{grid_text, links_text, marks_text}
use Rattle.picture_text.proofs.Sums.{back}
use Rattle.picture_text.proofs.whole.add_body.Goals as goal

pub returns : goal.returns
returns c =
    let step_1 : c.add_grid.new.into.items ≡ c.args.into.now.items ++ (grid_text c.args.set.now c.args.view c.args.ages.now) = search rules in
    let step_2 : c.add_links.new.into.items ≡ c.add_grid.new.into.items ++ (links_text c.args.set.now c.args.view c.args.shown.now.marks) = search rules in
    let step_3 : c.add_bounds.new.into.items ≡ c.add_links.new.into.items ++ (bounds_text c.args.set.now c.args.view c.args.shown.now.bounds) = search rules in
    let step_4 : c.add_marks.new.into.items ≡ c.add_bounds.new.into.items ++ (marks_text c.args.names.now c.args.set.now c.args.view c.args.shown.now.marks) = search rules in
    let step_5 : c.add_ages.new.into.items ≡ c.add_marks.new.into.items ++ (ages_text c.args.set.now c.args.view c.args.shown.now.spans c.args.shown.now.reads) = search rules in
    let from_4 : c.add_ages.new.into.items ≡ c.add_bounds.new.into.items ++ ((marks_text c.args.names.now c.args.set.now c.args.view c.args.shown.now.marks) ++ (ages_text c.args.set.now c.args.view c.args.shown.now.spans c.args.shown.now.reads)) =
    back c.add_ages.new.into.items c.add_marks.new.into.items c.add_bounds.new.into.items (marks_text c.args.names.now c.args.set.now c.args.view c.args.shown.now.marks) (ages_text c.args.set.now c.args.view c.args.shown.now.spans c.args.shown.now.reads) step_5 step_4 in
    let from_3 : c.add_ages.new.into.items ≡ c.add_links.new.into.items ++ ((bounds_text c.args.set.now c.args.view c.args.shown.now.bounds) ++ ((marks_text c.args.names.now c.args.set.now c.args.view c.args.shown.now.marks) ++ (ages_text c.args.set.now c.args.view c.args.shown.now.spans c.args.shown.now.reads))) =
    back c.add_ages.new.into.items c.add_bounds.new.into.items c.add_links.new.into.items (bounds_text c.args.set.now c.args.view c.args.shown.now.bounds) ((marks_text c.args.names.now c.args.set.now c.args.view c.args.shown.now.marks) ++ (ages_text c.args.set.now c.args.view c.args.shown.now.spans c.args.shown.now.reads)) from_4 step_3 in
    let from_2 : c.add_ages.new.into.items ≡ c.add_grid.new.into.items ++ ((links_text c.args.set.now c.args.view c.args.shown.now.marks) ++ ((bounds_text c.args.set.now c.args.view c.args.shown.now.bounds) ++ ((marks_text c.args.names.now c.args.set.now c.args.view c.args.shown.now.marks) ++ (ages_text c.args.set.now c.args.view c.args.shown.now.spans c.args.shown.now.reads)))) =
    back c.add_ages.new.into.items c.add_links.new.into.items c.add_grid.new.into.items (links_text c.args.set.now c.args.view c.args.shown.now.marks) ((bounds_text c.args.set.now c.args.view c.args.shown.now.bounds) ++ ((marks_text c.args.names.now c.args.set.now c.args.view c.args.shown.now.marks) ++ (ages_text c.args.set.now c.args.view c.args.shown.now.spans c.args.shown.now.reads))) from_3 step_2 in
    let from_1 : c.add_ages.new.into.items ≡ c.args.into.now.items ++ ((grid_text c.args.set.now c.args.view c.args.ages.now) ++ ((links_text c.args.set.now c.args.view c.args.shown.now.marks) ++ ((bounds_text c.args.set.now c.args.view c.args.shown.now.bounds) ++ ((marks_text c.args.names.now c.args.set.now c.args.view c.args.shown.now.marks) ++ (ages_text c.args.set.now c.args.view c.args.shown.now.spans c.args.shown.now.reads))))) =
    back c.add_ages.new.into.items c.add_grid.new.into.items c.args.into.now.items (grid_text c.args.set.now c.args.view c.args.ages.now) ((links_text c.args.set.now c.args.view c.args.shown.now.marks) ++ ((bounds_text c.args.set.now c.args.view c.args.shown.now.bounds) ++ ((marks_text c.args.names.now c.args.set.now c.args.view c.args.shown.now.marks) ++ (ages_text c.args.set.now c.args.view c.args.shown.now.spans c.args.shown.now.reads)))) from_2 step_1 in
    from_1
