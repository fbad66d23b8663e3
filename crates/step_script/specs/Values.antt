-- Expressions and their values.
use Rattle.std.specs.Prelude.{ℕ, zero, ℤ, pos, ◌+ℤ◌, ◌-ℤ◌, ◌*ℤ◌}
use Rattle.std.specs.Int.{saturate_to_bits, int_min, int_max}
use Rattle.std.specs.Int.RustNames.{int_div}
use Rattle.rt_base.specs.declared.ids.ItemId.{ItemId}
use Rattle.step_script.specs.declared.expr.BinOp.{BinOp}
use Rattle.step_script.specs.declared.expr.BinOp.TheVariants.{Add, Sub, Mul, Div, Min, Max}
use Rattle.step_script.specs.declared.expr.Expr.{Expr, fold-Expr}
use Rattle.step_script.specs.declared.expr.Expr.TheOpen.{Expr-F}

-- an expression without the places in memory of its parts
pub data Tree : Type 0 where
  leaf_const : ℤ → Tree
  leaf_sample : Tree
  leaf_serial : Tree
  leaf_last : ItemId → Tree
  node : BinOp → Tree → Tree → Tree

abbrev pub tree_step : Expr-F Tree → Tree
tree_step (Expr-F.Const n) = leaf_const n
tree_step Expr-F.Sample = leaf_sample
tree_step Expr-F.Serial = leaf_serial
tree_step (Expr-F.Last item) = leaf_last item
tree_step (Expr-F.Bin op a b) = node op a.value b.value

abbrev pub tree : Expr → Tree
tree = fold-Expr Tree tree_step

-- a number brought into the range of i64
abbrev pub clamped : ℤ → ℤ
clamped z = saturate_to_bits 63 z

-- rounded toward zero; 0 where the divisor is 0
abbrev pub quotient : ℤ → ℤ → ℤ
quotient a (pos zero) = pos 0
quotient a b = int_div a b

-- the exact value
abbrev pub exact : BinOp → ℤ → ℤ → ℤ
exact Add a b = a +ℤ b
exact Sub a b = a -ℤ b
exact Mul a b = a *ℤ b
exact Div a b = quotient a b
exact Min a b = int_min a b
exact Max a b = int_max a b

abbrev pub bin_value : BinOp → ℤ → ℤ → ℤ
bin_value op a b = clamped (exact op a b)

-- what an expression is computed from: besides the sample and the serial, the value last read of each item
pub record Known : Type 0 where
  pub sample : ℤ
  pub serial : ℤ
  pub lasts : ℕ → ℤ

abbrev pub value_in : Known → Tree → ℤ
value_in known (leaf_const n) = n
value_in known leaf_sample = known.sample
value_in known leaf_serial = known.serial
value_in known (leaf_last item) = known.lasts item.0
value_in known (node op a b) = bin_value op (value_in known a) (value_in known b)
