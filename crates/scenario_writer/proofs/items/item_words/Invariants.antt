use Rattle.std.proofs.Common.{map, drop}
use Rattle.scenario_writer.specs.Canonical.{item_word}
use Rattle.scenario_writer.proofs.Loops.{Begun}
use Rattle.scenario_writer.proofs.items.item_words.Given as goal

abbrev pub invariant-loop-item : goal.invariant-loop-item
invariant-loop-item l = Begun (map (item_word l.names) l.items) (map (item_word l.names) (drop l.item-index l.items))
    l.fn.out l.out
