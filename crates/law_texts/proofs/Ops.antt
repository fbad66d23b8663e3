-- Operations that are read as they were written.
use Rattle.std.proofs.Common.{◌≡◌, ℕ, List, [], length, get_or, true, Option, Some, option_map, option_and_then, refl, ap, ◌∙◌}
use Rattle.std.proofs.lemmas.Bool.{and_parts, ltb-true, leb-true}
use Rattle.rt_base.specs.declared.ids.ItemId.{ItemId}
use Rattle.step_script.specs.Scripts.{Operation, read, write, compute, commit, quit, is_good}
use Rattle.step_script.specs.Scenarios.{IsTextOp}
use Rattle.scenario_forms.specs.Fields.{Places, item_in}
use Rattle.scenario_forms.specs.Exprs.{Known}
use Rattle.scenario_forms.specs.Ops.{computes, op_of, op_in, read_of, write_of}
use Rattle.scenario_writer.specs.Canonical.{op_data}
use Rattle.scenario_writer.specs.Integers.{OpHasConstants}
use Rattle.law_texts.proofs.Parts.{whole_back}
use Rattle.law_texts.proofs.Exprs.{ArePlaced, item_back, expr_back}

module _ (places : Places) (names : List (List ℕ)) (placed : ArePlaced places names) where
  pub op_back : (op : Operation) → is_good (length names) op ≡ true → IsTextOp op → OpHasConstants op
      → op_in places (op_data names op) ≡ Some (op, true)
  op_back (read i) good text fits = ap (λ (o : Option ItemId). Some (read_of o))
      (item_back places names placed i (ltb-true i.0 (length names) good))
  op_back (write i value) good text fits =
      ap (λ (o : Option Known). option_map (write_of (item_in places (get_or names i.0 []))) o)
      (expr_back places names placed value 32 (leb-true _ _ (and_parts _ _ good).1)
      (and_parts _ _ (and_parts _ _ good).0).1 fits)
      ∙ ap (λ (o : Option ItemId). Some (write_of o (value, true)))
      (item_back places names placed i (ltb-true i.0 (length names) (and_parts _ _ (and_parts _ _ good).0).0))
  op_back (compute n) good text fits = ap (λ (o : Option ℕ). option_and_then (op_of places) (option_map computes o))
      (whole_back 1 10000 n text.0 text.1)
  op_back commit good text fits = refl
  op_back quit good text fits = refl
