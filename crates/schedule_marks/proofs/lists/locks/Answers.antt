use Rattle.std.proofs.Common.{◌≡◌, [], List, IfOk, ap, ◌∙◌, subst}
use Rattle.schedule_marks.specs.declared.mark.Mark.{Mark}
use Rattle.schedule_marks.specs.Marks.{locks_along}
use Rattle.schedule_marks.proofs.Seen.{seen_locks}
use Rattle.schedule_marks.proofs.lists.locks.Goals as goal

pub returns : goal.returns
returns c =
    let set = c.args.set.now in
    let rows = c.args.rows.now in
    subst (λ (l : List Mark). IfOk c.locks_along.result (λ v. v.items ≡ l))
    (ap (locks_along set c.args.window.part c.args.window.stop rows []) (c.deref.ensures.value ∙ c.in_ok-steps.ensures) ∙ seen_locks set c.args.window.part c.args.window.stop rows [] c.args.entries.now)
    c.locks_along.ensures
