use Rattle.std.proofs.Common.{◌∙◌}
use Rattle.schedule_marks.proofs.whole.marks_until.Goals as goal

pub returns : goal.returns
returns c =
    let present = c.deref.ensures.value ∙ c.in_ok-present.ensures in
    let locks = c.deref-3.ensures.value ∙ rw present at c.in_ok-locks.ensures in
    let spans = rw (c.new-into.ensures.items, c.deref-2.ensures.value ∙ c.in_ok-present.ensures, locks) at c.in_ok-add_spans.ensures in
    rw spans at c.in_ok-add_instants.ensures
