use Rattle.std.proofs.Common.{rules, ◌∙◌}
use Rattle.std.proofs.lemmas.List.Sorted.{answers_always}
use Rattle.core_tables.proofs.Names.{named_by}
use Rattle.core_tables.proofs.asks.names.Goals as goal

pub returns : goal.returns
returns c =
    let by_key = c.binary_search_by_key.ensures.position (λ y. y.0) (answers_always _ _ _ (λ f a r g called. search rules)) in
    c.is_ok.ensures.value ∙ named_by c.args.items.now c.args.item.0 c.binary_search_by_key.result c.requires by_key
