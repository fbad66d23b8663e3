use Rattle.std.proofs.Common.{[], ◌∷◌, codes, subst, List}
use Rattle.std.proofs.lemmas.Result.{on_ok_weaker}
use Rattle.rt_base.specs.declared.ids.ItemId.{ItemId}
use Rattle.scenario_writer.specs.Canonical.{item_words}
use Rattle.scenario_writer.specs.Sent.{SendsFields, field}
use Rattle.scenario_writer.proofs.Sending.{then_fields}
use Rattle.scenario_writer.proofs.txns.put_lists.Goals as goal

pub returns-clause-data : goal.returns-clause-data
returns-clause-data c = on_ok_weaker c.put_items-2.result (λ e.
    then_fields (_ ∷ []) _ _ _ _ (subst (λ (ids : List ItemId). SendsFields (field (codes "reads")
    (item_words c.args.names.now ids) ∷ []) c.args.out.now c.put_items.new.out) c.as_slice.ensures
    c.in_ok-put_items.ensures)
    (then_fields _ _ _ _ _ c.in_ok-put_ticks.ensures
    (then_fields (_ ∷ []) _ _ _ _ c.in_ok-put_samples.ensures.data
    (then_fields (_ ∷ []) _ _ _ _ c.in_ok-put_script.ensures.data
    (then_fields (_ ∷ []) _ _ _ _ c.in_ok-put_whole.ensures (subst (λ (ids : List ItemId). SendsFields
    (field (codes "writes") (item_words c.args.names.now ids) ∷ []) c.put_whole.new.out c.put_items-2.new.out)
    c.as_slice-2.ensures e)))))) c.put_items-2.ensures
