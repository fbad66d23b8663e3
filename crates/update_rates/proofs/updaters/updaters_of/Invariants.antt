use Rattle.std.proofs.Common.{◌≡◌, ◌<◌, ℕ, false, map, take}
use Rattle.update_rates.specs.Updaters.{updater_of}
use Rattle.update_rates.specs.Refusal.{is_other}
use Rattle.update_rates.proofs.updaters.updaters_of.Given as goal

abbrev pub invariant-loop-tx : goal.invariant-loop-tx
invariant-loop-tx l = record {
  items : l.updaters.items ≡ map (updater_of l.set.items) (take l.tx l.set.txns);
  passed : (k : ℕ) → k < l.tx → is_other l.set k ≡ false;
}
