use Rattle.std.proofs.Common.{◌≡◌, refl}
use Rattle.schedule_marks.proofs.Finding.{next_found, all_found}
use Rattle.schedule_marks.proofs.lists.add_each.Goals as goal

pub loop-one-preserved : goal.loop-one-preserved
loop-one-preserved g c = λ found says.
    let is : c.find.result ≡ found c.one-item.result =
    says c.one-item.result c.find.result (record { shown = _; shows = refl; says = record { met = c.find.ensures } }) in
    next_found found _ _ c.args.list.now c.loop-one.one-index _ c.one-item.result c.find.result c.loop-one-test.true c.one-item.is is
    c.in_ok-add.ensures (c.loop-one.invariant found says)

pub returns : goal.returns
returns g c = λ found says.
    all_found found _ _ c.args.list.now c.loop-one.one-index c.loop-one-test.false (c.loop-one.invariant found says)
