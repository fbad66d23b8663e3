use Rattle.std.proofs.Common.{◌≡◌, ◌++◌, ℕ, List, OnOk, subst}
use Rattle.schedule_marks.specs.declared.view.View.{View}
use Rattle.picture_text.specs.Texts.{picture_of}
use Rattle.picture_text.proofs.whole.add_picture_of.Goals as goal

pub returns : goal.returns
returns c =
    subst (λ (v : View). OnOk c.add_picture.result (c.add_picture.new.into.items ≡ c.args.into.now.items ++ picture_of c.args.names.now c.args.set.now v c.args.limits.now.ages c.args.shown.now))
    c.view_for.ensures
    (subst (λ (a : List ℕ). OnOk c.add_picture.result (c.add_picture.new.into.items ≡ c.args.into.now.items ++ picture_of c.args.names.now c.args.set.now c.view_for.result a c.args.shown.now))
    c.as_slice.ensures c.add_picture.ensures)
