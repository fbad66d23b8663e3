use Rattle.std.proofs.Common.{rules, ◌≡◌, replicate}
use Rattle.scenario_reader.proofs.Marking.{fresh_marks}
use Rattle.scenario_reader.proofs.marks.Marks.new.Goals as goal

pub returns : goal.returns
returns c =
    let zeros : c.in_ok-stamps.stamps.items ≡ replicate c.args.items 0 = search rules in
    fresh_marks c.args.items c.in_ok-stamps.stamps.items zeros
