use Rattle.c_forms.specs.Rows.{together_of_row}
use Rattle.c_forms.proofs.Mapped.{one_more, all_made}
use Rattle.c_forms.proofs.tables.togethers_of.Goals as goal

pub loop-row-preserved : goal.loop-row-preserved
loop-row-preserved c =
    one_more (together_of_row c.args.ids.now) c.args.rows.now c.loop-row.row-index _ _ _ _ c.loop-row-test.true c.loop-row.invariant c.in_ok-together_of.ensures c.in_ok-push.ensures.items

pub returns : goal.returns
returns c = all_made (together_of_row c.args.ids.now) c.args.rows.now c.loop-row.row-index _ c.loop-row-test.false c.loop-row.invariant
