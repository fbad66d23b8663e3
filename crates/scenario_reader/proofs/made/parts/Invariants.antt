use Rattle.std.proofs.Common.{◌≡◌, [], map}
use Rattle.std.specs.List.{All}
use Rattle.step_script.specs.Scripts.{program_of, IsTold}
use Rattle.scenario_forms.specs.Txns.{txn_view}
use Rattle.scenario_reader.specs.Made.{decl_of, program_from, HasGoodScript}
use Rattle.scenario_reader.proofs.made.parts.Given as goal

abbrev pub invariant-loop-txn : goal.invariant-loop-txn
invariant-loop-txn l = record {
  left : All (λ t. HasGoodScript l.items (txn_view t)) l.txn-iterator.rest.items;
  txns : l.parts.txns.items ≡ map (decl_of l.items) (map txn_view l.yielded);
  programs : map program_of l.parts.scripts.items ≡ map (program_from l.items) (map txn_view l.yielded);
  releases : l.parts.releases.items ≡ map (λ t. t.releases) (map txn_view l.yielded);
  begun : All (λ s. IsTold s 0 []) l.parts.scripts.items;
}
