use Rattle.scale_margin.proofs.Found.{half_small, between_last, is_margin}
use Rattle.scale_margin.proofs.halving.margin.Goals as goal

pub narrowed-requires-clause-half : goal.narrowed-requires-clause-half
narrowed-requires-clause-half g c = half_small c.loop-bit.bit c.loop-bit-test.true c.loop-bit.auto.bit

pub returns-clause-margin : goal.returns-clause-margin
returns-clause-margin g c = is_margin c.args.set.now c.is_compiled.ensures c.loop-bit.found (between_last c.args.set.now c.loop-bit.bit c.loop-bit.found c.loop-bit-test.false c.loop-bit.invariant.found)
