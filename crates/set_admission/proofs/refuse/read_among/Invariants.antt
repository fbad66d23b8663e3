use Rattle.std.proofs.Common.{◌≡◌, ◌+◌, ◌≤◌, max, length, drop}
use Rattle.std.specs.List.{filter}
use Rattle.txn_set.specs.Set.{txn_of, may_read}
use Rattle.set_admission.specs.Admission.{greatest_age}
use Rattle.set_admission.proofs.refuse.read_among.Given as goal

abbrev pub invariant-loop-item : goal.invariant-loop-item
invariant-loop-item l = record {
  few : l.count ≤ l.item-index;
  count : l.count + length (filter (λ i. may_read (txn_of l.set l.fn.tx.0) i.0) (drop l.item-index l.items)) ≡ length (filter (λ i. may_read (txn_of l.set l.fn.tx.0) i.0) l.items);
  greatest : max l.greatest (greatest_age l.set (filter (λ i. may_read (txn_of l.set l.fn.tx.0) i.0) (drop l.item-index l.items))) ≡ greatest_age l.set (filter (λ i. may_read (txn_of l.set l.fn.tx.0) i.0) l.items);
}
