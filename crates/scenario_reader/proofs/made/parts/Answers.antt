use Rattle.std.proofs.Common.{[], map, ap}
use Rattle.std.proofs.lemmas.List.Elements.{All-nil, All-same}
use Rattle.step_script.specs.Scripts.{program_of, IsTold}
use Rattle.scenario_forms.specs.Txns.{txn_view}
use Rattle.scenario_reader.specs.Made.{decl_of, program_from, HasGoodScript}
use Rattle.scenario_reader.proofs.Making.{all_views, this_one, the_rest, twice_push}
use Rattle.scenario_reader.proofs.made.parts.Goals as goal

pub add-requires : goal.add-requires
add-requires c =
    this_one (λ t. HasGoodScript c.args.items (txn_view t)) c.next.new.self.rest.items
    c.loop-txn.txn-iterator.rest.items
    c.in-Some.txn c.in-Some.ensures.steps.0 c.loop-txn.invariant.left

pub loop-txn-init : goal.loop-txn-init
loop-txn-init c = record {
  left = all_views c.args.items c.into_iter-txn-iterator.result.rest.items c.args.txns.items
      c.into_iter-txn-iterator.ensures.into_iter_gives.0 c.requires;
  txns = c.new.ensures.items;
  programs = ap (map program_of) c.new-2.ensures.items;
  releases = c.new-3.ensures.items;
  begun = All-same (λ s. IsTold s 0 []) c.new-2.result.items [] c.new-2.ensures.items (All-nil (λ s. IsTold s 0 []));
}

pub loop-txn-preserved : goal.loop-txn-preserved
loop-txn-preserved c = record {
  left = the_rest (λ t. HasGoodScript c.args.items (txn_view t)) c.next.new.self.rest.items
      c.loop-txn.txn-iterator.rest.items c.in-Some.txn c.in-Some.ensures.steps.0 c.loop-txn.invariant.left;
  txns = twice_push (decl_of c.args.items) c.loop-txn.yielded c.in-Some.txn c.add.new.self.txns.items
      c.loop-txn.parts.txns.items c.in_ok-add.ensures.txns c.loop-txn.invariant.txns;
  programs = twice_push (program_from c.args.items) c.loop-txn.yielded c.in-Some.txn
      (map program_of c.add.new.self.scripts.items) (map program_of c.loop-txn.parts.scripts.items)
      c.in_ok-add.ensures.programs c.loop-txn.invariant.programs;
  releases = twice_push (λ t. t.releases) c.loop-txn.yielded c.in-Some.txn c.add.new.self.releases.items
      c.loop-txn.parts.releases.items c.in_ok-add.ensures.releases c.loop-txn.invariant.releases;
  begun = c.in_ok-add.ensures.begun c.loop-txn.invariant.begun;
}
