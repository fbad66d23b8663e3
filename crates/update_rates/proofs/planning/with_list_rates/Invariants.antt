use Rattle.std.proofs.Common.{◌≡◌, ◌<◌, ◌≤◌, ℕ, length, get_or}
use Rattle.txn_set.specs.declared.decl.TxnDecl.{TxnDecl}
use Rattle.update_rates.specs.RatedSet.{with_rate, list_rate}
use Rattle.update_rates.proofs.planning.with_list_rates.Given as goal

abbrev pub invariant-loop-tx : goal.invariant-loop-tx
invariant-loop-tx l = record {
  one_each : length l.txns.items ≡ length l.initial.txns.items;
  given : (k : ℕ) (d : TxnDecl) → k < l.tx → get_or l.txns.items k d ≡ with_rate (list_rate (length l.initial.txns.items) k) (get_or l.initial.txns.items k d);
  later : (k : ℕ) (d : TxnDecl) → l.tx ≤ k → get_or l.txns.items k d ≡ get_or l.initial.txns.items k d;
}
