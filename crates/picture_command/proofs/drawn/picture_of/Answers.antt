use Rattle.std.proofs.Common.{◌≡◌, ℕ, List, IfOk, ap, subst, ◌∙◌}
use Rattle.job_rows.specs.declared.row.JobRow.{JobRow}
use Rattle.step_journal.specs.History.{state_of}
use Rattle.schedule_marks.specs.Shown.{shown_of}
use Rattle.picture_command.proofs.Legal.{page_drawn, picture_drawn, whole_picture}
use Rattle.picture_command.proofs.drawn.picture_of.Goals as goal

pub returns-in_ok-items : goal.returns-in_ok-items
returns-in_ok-items c =
    subst (λ (t : List ℕ). IfOk c.page.result (λ text. text.items ≡ t))
    (page_drawn c.args.names.now c.args.set.now c.args.limits.now c.in_ok-rows.rows _ _ c.part_in-part.result c.in_ok-shown.shown
    c.args.wanted.page c.in_ok-items.ensures c.if-wanted.true
    ∙ whole_picture c.args.names.now c.args.set.now c.args.limits.now c.args.entries.now c.args.wanted c.part_in-part.result
    c.in_ok-rows.rows c.in_ok-shown.shown c.part_in-part.ensures.value c.in_ok-rows.ensures
    (c.in_ok-shown.ensures
    ∙ ap (λ (r : List JobRow). shown_of c.args.set.now c.part_in-part.result c.args.limits.now r c.args.entries.now) c.as_slice.ensures))
    c.page.ensures

pub returns-else-wanted : goal.returns-else-wanted
returns-else-wanted c =
    subst (λ (t : List ℕ). IfOk c.picture.result (λ text. text.items ≡ t))
    (picture_drawn c.args.names.now c.args.set.now c.args.limits.now c.in_ok-rows.rows
    (state_of c.args.set.now c.args.entries.now).items c.part_in-part.result c.in_ok-shown.shown c.args.wanted.page c.if-wanted.false
    ∙ whole_picture c.args.names.now c.args.set.now c.args.limits.now c.args.entries.now c.args.wanted c.part_in-part.result
    c.in_ok-rows.rows c.in_ok-shown.shown c.part_in-part.ensures.value c.in_ok-rows.ensures
    (c.in_ok-shown.ensures
    ∙ ap (λ (r : List JobRow). shown_of c.args.set.now c.part_in-part.result c.args.limits.now r c.args.entries.now) c.as_slice.ensures))
    c.picture.ensures
