use Rattle.std.proofs.Common.{length, ap, arith}
use Rattle.response_test.proofs.Iteration.{below-added}
use Rattle.response_test.proofs.windows.Loads.add.Goals as goal

pub invariant_of-self-2 : goal.invariant_of-self-2
invariant_of-self-2 c = record {
  few = omega (arith, c.in_ok-add_load.ensures.length, c.requires.few, ap length c.self.view_is);
  fair = c.add_load.ensures.fair;
  below =
      rw c.saturating_sub-self-inside.ensures
      (below-added c.self.inside.loads.items _ _ _ _ _ c.requires.period.0 c.in_ok-add_load.ensures.uses c.self.invariant.below);
}
