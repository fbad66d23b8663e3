-- A slot of a transaction holds its pending job, if any.
use Rattle.std.specs.Prelude.{Option, None, Some}
use Rattle.item_model.specs.Work.{Work}
use Rattle.step_journal.specs.State.{Row}
use Rattle.plain_core.specs.declared.slot.Head.{Head}

abbrev pub slot_row : Option Head → Work → Option Row
slot_row None work = None
slot_row (Some h) work = Some (record { job = h.job; release = h.release; used = h.used; work = work; waits_on = h.waits_on })

abbrev pub head_of : Row → Head
head_of row = record { job = row.job; release = row.release; used = row.used; waits_on = row.waits_on }
