use Rattle.std.proofs.Common.{◌≡◌, ◌<◌, ℕ, length, get_or, Some}
use Rattle.rt_base.specs.declared.ids.TxId.{TxId}
use Rattle.law_times.specs.Response.{response}
use Rattle.set_admission.proofs.schedule.by_transaction.Given as goal

abbrev pub invariant-loop-rank : goal.invariant-loop-rank
invariant-loop-rank l = record {
  one_each : length l.found.items ≡ length l.order;
  each : (k : ℕ) (d : TxId) → k < l.rank → response l.set (get_or l.order k d).0 ≡ Some (get_or l.found.items (get_or l.order k d).0 0);
}
