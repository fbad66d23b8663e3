use Rattle.std.proofs.Common.{[], codes, rules, ◌++◌, ◌+◌, ◌-◌, ◌≡◌}
use Rattle.schedule_marks.specs.Places.{x_of}
use Rattle.schedule_marks.specs.Svg.{fitting}
use Rattle.picture_text.specs.Texts.{lock_class, span}
use Rattle.picture_text.proofs.Sums.{back}
use Rattle.picture_text.proofs.marks.add_lock.Goals as goal

pub returns : goal.returns
returns c =
    let step_1 : c.add_span.new.into.items ≡ c.args.into.now.items ++ (span c.args.view (lock_class c.args.is_write) c.args.held.from c.args.held.to c.args.y 12) = search rules in
    let step_2 : c.add_fitting.new.into.items ≡ c.add_span.new.into.items ++ (fitting (codes "s") (x_of c.args.view c.args.held.from + 3) (c.args.y + 10) (x_of c.args.view c.args.held.to - x_of c.args.view c.args.held.from) c.args.item.now []) = search rules in
    let from_1 : c.add_fitting.new.into.items ≡ c.args.into.now.items ++ ((span c.args.view (lock_class c.args.is_write) c.args.held.from c.args.held.to c.args.y 12) ++ (fitting (codes "s") (x_of c.args.view c.args.held.from + 3) (c.args.y + 10) (x_of c.args.view c.args.held.to - x_of c.args.view c.args.held.from) c.args.item.now [])) =
    back c.add_fitting.new.into.items c.add_span.new.into.items c.args.into.now.items (span c.args.view (lock_class c.args.is_write) c.args.held.from c.args.held.to c.args.y 12) (fitting (codes "s") (x_of c.args.view c.args.held.from + 3) (c.args.y + 10) (x_of c.args.view c.args.held.to - x_of c.args.view c.args.held.from) c.args.item.now []) step_2 step_1 in
    from_1
