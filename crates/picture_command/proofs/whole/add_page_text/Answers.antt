use Rattle.std.proofs.Common.{◌≡◌, ◌++◌, OnOk, subst}
use Rattle.schedule_marks.specs.declared.view.View.{View}
use Rattle.picture_command.specs.Page.{page_of}
use Rattle.picture_command.proofs.whole.add_page_text.Goals as goal

pub returns : goal.returns
returns c =
    subst (λ (v : View). OnOk c.add_page.result (c.add_page.new.into.items ≡ c.args.into.now.items ++ page_of c.args.names.now c.args.set.now v c.args.limits.now c.args.contents.now.rows c.args.contents.now.items c.args.contents.now.shown))
    c.view_for.ensures c.add_page.ensures
