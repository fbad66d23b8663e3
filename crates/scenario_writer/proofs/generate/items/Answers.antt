use Rattle.std.proofs.Common.{◌≡◌, List, [], ◌∷◌, ◌++◌, sym, ap, ◌∙◌, arith}
use Rattle.item_model.specs.declared.decl.ItemDecl.{ItemDecl}
use Rattle.scenario_writer.specs.Generated.{each, dated_item, state_item}
use Rattle.scenario_writer.proofs.Each.{each_more}
use Rattle.scenario_writer.proofs.generate.items.Goals as goal

pub loop-i-preserved : goal.loop-i-preserved
loop-i-preserved c = c.in_ok-push.ensures.items
    ∙ ap (λ (ds : List ItemDecl). ds ++ c.dated_item.result ∷ []) c.loop-i.invariant
    ∙ ap (λ (d : ItemDecl). each (dated_item c.args.n) c.loop-i.i ++ d ∷ []) c.dated_item.ensures
    ∙ sym (each_more (dated_item c.args.n) c.loop-i.i)

pub returns : goal.returns
returns c =
    let all : c.loop-i.i ≡ c.args.n = omega arith in
    c.in_ok-push-2.ensures.items ∙ ap (λ (ds : List ItemDecl). ds ++ state_item ∷ [])
    (c.loop-i.invariant ∙ ap (each (dated_item c.args.n)) all)
