use Rattle.std.proofs.Common.{◌++◌, ◌≡◌}
use Rattle.picture_text.specs.Legend.{ages_legend, arrows_legend, ends_legend, jobs_legend, steps_legend}
use Rattle.picture_text.proofs.Sums.{back}
use Rattle.picture_text.proofs.legend.add_legend.Goals as goal

pub returns : goal.returns
returns c =
    let from_4 : c.add_ages_legend.new.into.items ≡ c.add_arrows_legend.new.into.items ++ ((ends_legend) ++ (ages_legend)) =
    back c.add_ages_legend.new.into.items c.add_ends_legend.new.into.items c.add_arrows_legend.new.into.items (ends_legend) (ages_legend) c.in_ok-add_ages_legend.ensures c.in_ok-add_ends_legend.ensures in
    let from_3 : c.add_ages_legend.new.into.items ≡ c.add_jobs_legend.new.into.items ++ ((arrows_legend) ++ ((ends_legend) ++ (ages_legend))) =
    back c.add_ages_legend.new.into.items c.add_arrows_legend.new.into.items c.add_jobs_legend.new.into.items (arrows_legend) ((ends_legend) ++ (ages_legend)) from_4 c.in_ok-add_arrows_legend.ensures in
    let from_2 : c.add_ages_legend.new.into.items ≡ c.add_steps_legend.new.into.items ++ ((jobs_legend) ++ ((arrows_legend) ++ ((ends_legend) ++ (ages_legend)))) =
    back c.add_ages_legend.new.into.items c.add_jobs_legend.new.into.items c.add_steps_legend.new.into.items (jobs_legend) ((arrows_legend) ++ ((ends_legend) ++ (ages_legend))) from_3 c.in_ok-add_jobs_legend.ensures in
    let from_1 : c.add_ages_legend.new.into.items ≡ c.args.into.now.items ++ ((steps_legend) ++ ((jobs_legend) ++ ((arrows_legend) ++ ((ends_legend) ++ (ages_legend))))) =
    back c.add_ages_legend.new.into.items c.add_steps_legend.new.into.items c.args.into.now.items (steps_legend) ((jobs_legend) ++ ((arrows_legend) ++ ((ends_legend) ++ (ages_legend)))) from_2 c.in_ok-add_steps_legend.ensures in
    from_1
