use Rattle.std.proofs.Common.{◌≡◌, ℕ, IfOk, subst}
use Rattle.schedule_marks.specs.Marks.{marks_to}
use Rattle.schedule_marks.proofs.whole.marks.Goals as goal

pub returns : goal.returns
returns c =
    subst (λ (stop : ℕ). IfOk c.marks_until.result (λ v. v.items ≡ marks_to c.args.set.now c.args.part stop c.args.rows.now c.args.entries.now))
    c.last_instant-stop.ensures c.marks_until.ensures
