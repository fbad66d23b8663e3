use Rattle.std.proofs.Common.{ap, length, arith}
use Rattle.std.proofs.lemmas.List.{length-append}
use Rattle.age_bounds.proofs.Rungs.{rungs_push}
use Rattle.core_tests.proofs.ladders.ladder.Goals as goal

pub loop-i-preserved : goal.loop-i-preserved
loop-i-preserved c = record {
  one_each = omega (arith, c.loop-i.invariant.one_each, simp length-append at (ap length c.in_ok-push.ensures.items));
  each = rungs_push _ _ _ _ c.in_ok-push.ensures.items c.loop-i.invariant.one_each c.loop-i.invariant.each c.in_ok-rung.ensures;
}
