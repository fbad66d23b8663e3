use Rattle.std.proofs.Common.{◌++◌, ◌≡◌}
use Rattle.picture_text.specs.Legend.{deadline_head, hatching, refusal_head, release_head}
use Rattle.picture_text.proofs.Sums.{back}
use Rattle.picture_text.proofs.legend.add_arrows.Goals as goal

pub returns : goal.returns
returns c =
    let from_3 : c.add-4.new.into.items ≡ c.add-2.new.into.items ++ ((refusal_head) ++ (hatching)) =
    back c.add-4.new.into.items c.add-3.new.into.items c.add-2.new.into.items (refusal_head) (hatching) c.in_ok-add-4.ensures c.in_ok-add-3.ensures in
    let from_2 : c.add-4.new.into.items ≡ c.add.new.into.items ++ ((deadline_head) ++ ((refusal_head) ++ (hatching))) =
    back c.add-4.new.into.items c.add-2.new.into.items c.add.new.into.items (deadline_head) ((refusal_head) ++ (hatching)) from_3 c.in_ok-add-2.ensures in
    let from_1 : c.add-4.new.into.items ≡ c.args.into.now.items ++ ((release_head) ++ ((deadline_head) ++ ((refusal_head) ++ (hatching)))) =
    back c.add-4.new.into.items c.add.new.into.items c.args.into.now.items (release_head) ((deadline_head) ++ ((refusal_head) ++ (hatching))) from_2 c.in_ok-add.ensures in
    from_1
