use Rattle.std.proofs.lemmas.Result.{on_ok_weaker}
use Rattle.scenario_writer.specs.Canonical.{item_word}
use Rattle.scenario_writer.proofs.Loops.{begun, more_mapped_at, all_mapped}
use Rattle.scenario_writer.proofs.items.item_words.Goals as goal

pub loop-item-init : goal.loop-item-init
loop-item-init c = begun _ _ _ c.in_ok-begin_array.ensures

pub loop-item-preserved : goal.loop-item-preserved
loop-item-preserved c = more_mapped_at (item_word c.args.names.now) c.args.items.now c.loop-item.item-index _ _ _ _ _
    c.loop-item-test.true c.loop-item.invariant c.in_ok-item_name.ensures

pub returns : goal.returns
returns c = on_ok_weaker c.end_array.result (all_mapped (item_word c.args.names.now) c.args.items.now
    c.loop-item.item-index _ _ _ _ c.loop-item-test.false c.loop-item.invariant) c.end_array.ensures
