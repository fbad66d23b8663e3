use Rattle.std.proofs.Common.{◌==◌, map, length, sym, ap, ◌∙◌}
use Rattle.std.proofs.lemmas.List.{with_items_is}
use Rattle.scenario_reader.proofs.Marking.{cleared}
use Rattle.scenario_reader.proofs.marks.Marks.clear.Goals as goal

pub returns : goal.returns
returns c =
    let all = c.next_round-self-inside.ensures.all ∙ ap length c.deref_mut.ensures.value in
    ap (map (λ s. s == c.next_round-self-inside.result))
    (with_items_is c.self.inside.stamps c.next_round-self-inside.new.stamps (all ∙ sym c.self.inside.stamps.ok.0))
    ∙ cleared c.next_round-self-inside.result c.next_round-self-inside.new.stamps c.self.inside.stamps.items
    c.args.self.now c.self.inside.round c.next_round-self-inside.ensures.later all c.self.view_is
