use Rattle.std.proofs.Common.{◌≡◌, length}
use Rattle.update_rates.proofs.Chosen.{AreRatedTo}
use Rattle.update_rates.proofs.Growing.{IsShortAt}
use Rattle.update_rates.proofs.rates.rates_of.Given as goal

abbrev pub invariant-loop-ranked : goal.invariant-loop-ranked
invariant-loop-ranked l = record {
  one_each : length l.rates.items ≡ length l.updaters;
  rated : AreRatedTo l.updaters l.ranked-items l.rates.items l.ranked-index;
  short : IsShortAt l.updaters l.ranked-items l.ranked-index l.from;
}
