-- Expressions that are read as they were written.
use Rattle.std.proofs.Common.{◌≡◌, ℕ, zero, suc, ◌<◌, ◌≤◌, List, [], length, get_or, true, Option, Some, option_and_then, option_map, refl, ap, ◌∙◌, arith}
use Rattle.std.proofs.lemmas.Bool.{and_parts, ltb-true}
use Rattle.rt_base.specs.declared.ids.ItemId.{ItemId}
use Rattle.step_script.specs.declared.expr.BinOp.{BinOp}
use Rattle.step_script.specs.declared.expr.BinOp.TheVariants.{Add}
use Rattle.step_script.specs.Values.{Tree, leaf_const, leaf_sample, leaf_serial, leaf_last, node}
use Rattle.step_script.specs.Scripts.{depth, reads_below}
use Rattle.serde_json.specs.Data.{Data, array, item, no_items}
use Rattle.scenario_forms.specs.Fields.{Places, item_in, item_id}
use Rattle.scenario_forms.specs.Shapes.{Form, const, bin, shape_of}
use Rattle.scenario_forms.specs.Exprs.{Known, expr_in, expr_at, last_of, bin_of}
use Rattle.scenario_writer.specs.Canonical.{one, op_word, expr_data}
use Rattle.scenario_writer.specs.Integers.{HasConstants}
use Rattle.law_texts.proofs.Parts.{integer_back}

-- each name has its place
abbrev pub ArePlaced : Places → List (List ℕ) → Type 0
ArePlaced places names = (i : ℕ) → i < length names → places (get_or names i []) ≡ Some i

pub item_back : (places : Places) (names : List (List ℕ)) → ArePlaced places names → (i : ItemId) → i.0 < length names
    → item_in places (get_or names i.0 []) ≡ Some i
item_back places names placed i lt = ap (λ (o : Option ℕ). option_map item_id o) (placed i.0 lt)

node_shape : (op : BinOp) (a b : Data) → shape_of (one (op_word op) (array (item a (item b no_items)))) ≡ Some
    (bin op a b)
node_shape Add a b = refl
node_shape other a b = refl

module _ (places : Places) (names : List (List ℕ)) (placed : ArePlaced places names) where
  at_level : (n : ℕ) (d : Data) (f : Form) → shape_of d ≡ Some f
      → expr_at places (suc n) d ≡ expr_in places (expr_at places n) f
  unfolding expr_at
  at_level n d f is = ap (λ (o : Option Form). option_and_then (expr_in places (expr_at places n)) o) is

  both : (op : BinOp) (x y : Known) (a b : Option Known) → a ≡ Some x → b ≡ Some y
      → option_and_then (λ u. option_and_then (λ v. Some (bin_of op u v)) b) a ≡ Some (bin_of op x y)
  both op x y a b p q = ap (λ (o : Option Known). option_and_then (λ u. option_and_then (λ v. Some
      (bin_of op u v)) b) o) p
      ∙ ap (λ (o : Option Known). option_and_then (λ v. Some (bin_of op x v)) o) q

  pub expr_back : (t : Tree) (n : ℕ) → depth t ≤ n → reads_below (length names) t ≡ true → HasConstants t
      → expr_at places n (expr_data names t) ≡ Some (t, true)
  expr_back (leaf_const z) zero low below fits = absurd (omega arith)
  expr_back (leaf_const z) (suc n) low below fits =
      at_level n _ (const z) (ap (λ (o : Option _). option_map const o) (integer_back z fits))
  expr_back leaf_sample zero low below fits = absurd (omega arith)
  expr_back leaf_sample (suc n) low below fits = at_level n _ _ refl
  expr_back leaf_serial zero low below fits = absurd (omega arith)
  expr_back leaf_serial (suc n) low below fits = at_level n _ _ refl
  expr_back (leaf_last i) zero low below fits = absurd (omega arith)
  expr_back (leaf_last i) (suc n) low below fits = at_level n _ _ refl
      ∙ ap (λ (o : Option ItemId). Some (last_of o)) (item_back places names placed i (ltb-true i.0
      (length names) below))
  expr_back (node op a b) zero low below fits = absurd (omega arith)
  expr_back (node op a b) (suc n) low below fits = at_level n _ _ (node_shape op (expr_data names a)
      (expr_data names b))
      ∙ both op (a, true) (b, true) _ _ (expr_back a n (omega arith) (and_parts _ _ below).0 fits.0)
      (expr_back b n (omega arith) (and_parts _ _ below).1 fits.1)
