use Rattle.std.proofs.Common.{◌≡◌, ℕ, ◌++◌, Bool, true, false, List, length, map, get_or, ap, ◌∙◌}
use Rattle.std.specs.Option.{option_map, option_to_list}
use Rattle.step_script.specs.declared.script.ScriptOp.{ScriptOp}
use Rattle.step_script.specs.Scripts.{operation, is_good}
use Rattle.scenario_check.specs.declared.kinds.Warning.{Warning}
use Rattle.scenario_check.specs.declared.kinds.Warning.TheVariants.{UnreadLast}
use Rattle.scenario_check.specs.Scripts.{unread_by}
use Rattle.scenario_check.specs.Warnings.{of_last}
use Rattle.scenario_check.proofs.Below.{one_more}
use Rattle.scenario_check.proofs.Lasts.{good_marks, sized_on, stand_on, last_of}
use Rattle.scenario_check.proofs.scripts.put_lasts.Goals as goal

pub loop-at-preserved : goal.loop-at-preserved
loop-at-preserved c =
    let ops : List ScriptOp = c.args.ops.now in
    let k : ℕ = c.loop-at.at in
    let op : ScriptOp = c.index-ops-at.result in
    let marks : List Bool = c.loop-at.marks.items in
    let good : is_good (length marks) (operation op) ≡ true =
    good_marks c.args.items marks ops k op c.loop-at.invariant.sized c.loop-at-test.true c.index-ops-at.is c.requires in
    let said : c.unread_by.result ≡ unread_by (λ i. get_or marks i false) (operation op) =
    c.unread_by.ensures
    ∙ ap (λ (m : List Bool). unread_by (λ i. get_or m i false) (operation op)) c.deref.ensures.value in
    let put : c.put_last.new.out.items ≡ c.loop-at.out.items ++ option_to_list (option_map (UnreadLast c.args.tx k) c.unread_by.result) =
    c.in_ok-put_last.ensures in
    record {
      sized = sized_on c.args.items marks c.mark.new.marks.items (operation op) c.loop-at.invariant.sized c.mark.ensures;
      stand = stand_on ops k op marks c.mark.new.marks.items c.loop-at-test.true c.index-ops-at.is good c.mark.ensures
          c.loop-at.invariant.stand;
      told = one_more (of_last c.args.tx (map operation ops)) c.args.out.now.items c.loop-at.out.items
          c.put_last.new.out.items k c.loop-at.invariant.told
          (put ∙ ap (λ (l : List Warning). c.loop-at.out.items ++ l)
          (last_of c.args.tx ops k op marks c.unread_by.result c.loop-at-test.true c.index-ops-at.is
          c.loop-at.invariant.stand said));
    }
