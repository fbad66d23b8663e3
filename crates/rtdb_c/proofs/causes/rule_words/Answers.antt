use Rattle.std.proofs.Common.{◌∙◌, sym}
use Rattle.rtdb_c.proofs.Told.{same_prio, bad_times, no_writer, two_writers, cyclic}
use Rattle.rtdb_c.proofs.causes.rule_words.Goals as goal

pub returns-in-12 : goal.returns-in-12
returns-in-12 c = c.same_prio.ensures ∙ sym (same_prio c.args.form c.in-12.is)

pub returns-in-13 : goal.returns-in-13
returns-in-13 c = c.bad_times.ensures ∙ sym (bad_times c.args.form c.in-13.is)

pub returns-in-14 : goal.returns-in-14
returns-in-14 c = c.of_item.ensures ∙ sym (no_writer c.args.form c.in-14.is)

pub returns-in-15 : goal.returns-in-15
returns-in-15 c = c.two_writers.ensures ∙ sym (two_writers c.args.form c.in-15.is)

pub returns-in-16 : goal.returns-in-16
returns-in-16 c = c.of_item-in-16.ensures ∙ sym (cyclic c.args.form c.in-16.is)
