use Rattle.std.proofs.Common.{arith}
use Rattle.strict_commit.proofs.Fews.{places_new}
use Rattle.strict_commit.proofs.work.Work.clear.Goals as goal

pub invariant_of-self : goal.invariant_of-self
invariant_of-self c = rw (c.clear.ensures.items, c.clear-2.ensures.items) (places_new _ _ _ _ (omega (arith, c.clear.ensures.capacity, c.self.invariant.reads_fit)) (omega (arith, c.clear-2.ensures.capacity, c.self.invariant.writes_fit)) c.self.invariant.reads_rise c.self.invariant.writes_rise)
