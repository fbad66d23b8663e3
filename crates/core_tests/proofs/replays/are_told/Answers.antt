use Rattle.serial_replay.proofs.Released.{row_released}
use Rattle.core_tests.proofs.replays.are_told.Goals as goal

pub delay-requires-clause-released : goal.delay-requires-clause-released
delay-requires-clause-released c =
    row_released c.args.set.now c.args.entries.now c.args.rows.now c.loop-row.row-index _ c.is_compiled.ensures c.requires.legal c.requires.rows c.loop-row-test.true
