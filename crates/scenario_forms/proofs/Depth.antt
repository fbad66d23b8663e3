-- An expression, one level down.
use Rattle.std.proofs.Common.{◌≡◌, ℕ, suc, ◌-◌, Some, None, option_and_then, refl, ap, arith}
use Rattle.serde_json.specs.Data.{Data}
use Rattle.step_script.specs.declared.expr.BinOp.{BinOp}
use Rattle.scenario_forms.specs.Fields.{Places}
use Rattle.scenario_forms.specs.Shapes.{bin, shape_of}
use Rattle.scenario_forms.specs.Exprs.{Known, bin_of, expr_in, expr_at}

pub at_zero : (places : Places) (n : ℕ) (d : Data) → n ≡ 0 → expr_at places n d ≡ None
unfolding expr_at
at_zero places n d e = ap (λ (k : ℕ). expr_at places k d) e

pub at_depth : (places : Places) (n : ℕ) (d : Data) → (n ≡ 0 → ⊥)
    → expr_at places n d ≡ option_and_then (expr_in places (expr_at places (n - 1))) (shape_of d)
unfolding expr_at
at_depth places n d some = let k : n ≡ suc (n - 1) = omega arith in ap (λ (m : ℕ). expr_at places m d) k

pub both : (places : Places) (n : ℕ) (op : BinOp) (a b : Data) (x y : Known) → expr_at places n a ≡ Some x
    → expr_at places n b ≡ Some y → expr_in places (expr_at places n) (bin op a b) ≡ Some (bin_of op x y)
both places n op a b x y p q = rw (p, q) refl
