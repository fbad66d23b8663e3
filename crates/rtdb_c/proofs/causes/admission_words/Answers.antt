use Rattle.std.proofs.Common.{◌∙◌, sym}
use Rattle.rtdb_c.proofs.Told.{not_schedulable, too_old, too_apart}
use Rattle.rtdb_c.proofs.causes.admission_words.Goals as goal

pub returns-in-20 : goal.returns-in-20
returns-in-20 c = c.not_schedulable.ensures ∙ sym (not_schedulable c.args.form c.in-20.is)

pub returns-in-21 : goal.returns-in-21
returns-in-21 c = c.too_old.ensures ∙ sym (too_old c.args.form c.in-21.is)

pub returns-in-22 : goal.returns-in-22
returns-in-22 c = c.too_apart.ensures ∙ sym (too_apart c.args.form c.in-22.is)
