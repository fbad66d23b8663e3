use Rattle.std.proofs.Common.{◌≡◌, ◌+◌, ◌/◌, ◌≤◌, [], vec_len, vec_capacity, All, Vec, Global}
use Rattle.txn_threads.specs.declared.member.Member.{Member}
use Rattle.plant_run.proofs.deal.empty_lists.Given as goal

abbrev pub invariant-loop : goal.invariant-loop
invariant-loop g l = record {
  len : vec_len l.lists ≡ l.counter;
  room : l.workers ≤ vec_capacity l.lists;
  places : All (λ (v : Vec (Member g.row.B.Denot g.row.Y.Denot) Global). (vec_len v ≡ 0) × (l.txs / l.workers + 1 ≤ vec_capacity v)) l.lists.items;
  empty : All (λ (v : Vec (Member g.row.B.Denot g.row.Y.Denot) Global). v.items ≡ []) l.lists.items;
}
