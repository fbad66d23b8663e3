use Rattle.std.proofs.Common.{◌≡◌, ◌+◌, ◌*◌, ◌^◌, ◌≤◌, length}
use Rattle.std.specs.List.{filter, sum_by}
use Rattle.update_rates.specs.Rates.{is_earlier, load, period}
use Rattle.update_rates.proofs.Ranges.{rest_of}
use Rattle.update_rates.proofs.Windows.{term_of}
use Rattle.update_rates.proofs.deadline.load_of.Given as goal

abbrev pub invariant-loop-other : goal.invariant-loop-other
invariant-loop-other l = record {
  few : l.total ≤ 10000 + l.other * (2 ^ 30 * 10000);
  is :
      l.total
      + sum_by (term_of l.updaters l.ticks)
      (filter (λ h. is_earlier l.updaters h l.tx) (rest_of l.other (length l.updaters)))
      ≡ load l.updaters (period l.updaters) l.tx l.ticks;
}
