use Rattle.std.proofs.Common.{◌≡◌, ◌+◌, ◌≤◌, ℕ, length}
use Rattle.std.specs.List.{filter, sum_by}
use Rattle.response_test.specs.Loads.{uses}
use Rattle.update_rates.specs.Updaters.{updater_at}
use Rattle.update_rates.specs.Rates.{is_earlier, load, period}
use Rattle.update_rates.proofs.Ranges.{rest_of}
use Rattle.update_rates.proofs.Windows.{term_of}
use Rattle.update_rates.proofs.deadline.earlier_loads.Given as goal

abbrev pub invariant-loop-other : goal.invariant-loop-other
invariant-loop-other l = record {
  few : length l.loads ≤ l.other;
  is :
      (w : ℕ) →
      (updater_at l.updaters l.tx).steps + uses w l.loads
      + sum_by (term_of l.updaters w)
      (filter (λ h. is_earlier l.updaters h l.tx) (rest_of l.other (length l.updaters)))
      ≡ load l.updaters (period l.updaters) l.tx w;
}
