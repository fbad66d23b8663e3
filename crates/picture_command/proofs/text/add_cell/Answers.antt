use Rattle.std.proofs.Common.{codes, ◌++◌, ◌≡◌}
use Rattle.picture_text.proofs.Sums.{back}
use Rattle.picture_command.proofs.text.add_cell.Goals as goal

pub returns : goal.returns
returns c =
    let from_2 : c.add-3.new.into.items ≡ c.add.new.into.items ++ ((c.args.word.now) ++ (codes "</td>")) =
    back c.add-3.new.into.items c.add-2.new.into.items c.add.new.into.items (c.args.word.now) (codes "</td>") c.in_ok-add-3.ensures c.in_ok-add-2.ensures in
    let from_1 : c.add-3.new.into.items ≡ c.args.into.now.items ++ ((codes "<td>") ++ ((c.args.word.now) ++ (codes "</td>"))) =
    back c.add-3.new.into.items c.add.new.into.items c.args.into.now.items (codes "<td>") ((c.args.word.now) ++ (codes "</td>")) from_2 c.in_ok-add.ensures in
    from_1
