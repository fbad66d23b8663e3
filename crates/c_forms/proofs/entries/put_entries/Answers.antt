use Rattle.std.proofs.Common.{arith}
use Rattle.c_forms.proofs.Putting.{put_more}
use Rattle.c_forms.proofs.entries.put_entries.Goals as goal

pub loop-place-preserved : goal.loop-place-preserved
loop-place-preserved c =
    put_more c.args.entries.now c.args.into.now c.loop-place.into c.loop-place.place _ c.put_entry.new.form c.put_entry.new.form c.loop-place-test.true (omega (arith, c.loop-place-test.true, c.requires)) c.loop-place.invariant c.put_entry.ensures
