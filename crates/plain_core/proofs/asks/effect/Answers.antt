use Rattle.plain_core.proofs.SlotReads.{row_read}
use Rattle.plain_core.proofs.asks.effect.Goals as goal

pub slot_end-end-requires-clause-used : goal.slot_end-end-requires-clause-used
slot_end-end-requires-clause-used c =
    λ row h. c.requires.used c.args.job.tx.0 row (row_read _ _ _ _ row c.slots.ensures c.requires.slot c.index-slots-at.is h)
