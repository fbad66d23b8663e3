use Rattle.std.proofs.Common.{◌∙◌, ◌++◌, ◌∷◌, [], None, map, take, ap, sym}
use Rattle.std.proofs.lemmas.List.{map_more}
use Rattle.plain_core.proofs.openings.opening_slots.Goals as goal

pub loop-t-preserved : goal.loop-t-preserved
loop-t-preserved c =
    c.in_ok-push.ensures.items
    ∙ (ap (λ l. l ++ c.in_ok-slot.slot ∷ []) c.loop-t.invariant
    ∙ (ap (λ s. map (λ t. None) (take c.loop-t.t-index c.args.txns.now) ++ s ∷ []) c.in_ok-slot.ensures
    ∙ sym (map_more (λ t. None) c.args.txns.now c.loop-t.t-index c.t-item.result c.loop-t-test.true)))
