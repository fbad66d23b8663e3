use Rattle.scenario_reader.proofs.Marking.{marked_at}
use Rattle.scenario_reader.proofs.marks.Marks.mark.Goals as goal

pub returns-then-at-len : goal.returns-then-at-len
returns-then-at-len c =
    marked_at c.self.inside.round c.self.inside.stamps.items c.args.item.0 c.args.self.now c.self.view_is
