use Rattle.std.proofs.Common.{arith}
use Rattle.c_forms.specs.Back.{entry_of}
use Rattle.c_forms.proofs.Mapped.{one_more, all_made}
use Rattle.c_stations.proofs.entry.put_entries_of.Goals as goal

pub loop-form-preserved : goal.loop-form-preserved
loop-form-preserved c = record {
  items = one_more entry_of c.args.forms.now c.loop-form.form-index _ _ _ _ c.loop-form-test.true c.loop-form.invariant.items c.entry_of.ensures c.push_reserved.ensures.items;
  capacity = omega (arith, c.loop-form.invariant.capacity, c.push_reserved.ensures.capacity);
}

pub returns-clause-items : goal.returns-clause-items
returns-clause-items c = all_made entry_of c.args.forms.now c.loop-form.form-index _ c.loop-form-test.false c.loop-form.invariant.items
