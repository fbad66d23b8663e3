-- Whole expressions.
use Rattle.std.specs.Prelude.{◌≡◌, ℕ, zero, suc, ◌&&◌, Bool, true, false, Option, Some, None, option_and_then, Result, Ok, Err}
use Rattle.rt_base.specs.declared.ids.ItemId.{ItemId}
use Rattle.serde_json.specs.Data.{Data}
use Rattle.step_script.specs.declared.expr.BinOp.{BinOp}
use Rattle.step_script.specs.Values.{Tree, leaf_const, leaf_sample, leaf_serial, leaf_last, node, tree}
use Rattle.scenario_forms.specs.declared.expr.Fault.{Fault}
use Rattle.scenario_forms.specs.declared.expr.Fault.TheVariants as faults
use Rattle.scenario_forms.specs.declared.expr.ReadExpr.{ReadExpr}
use Rattle.scenario_forms.specs.Fields.{Places, item_in, item_id}
use Rattle.scenario_forms.specs.Shapes.{Form, const, sample, serial, last, bin, shape_of}

-- an expression, and whether all its names are known
abbrev pub Known : Type 0
Known = Tree × Bool

-- item 0 stands for an unknown one
abbrev pub last_of : Option ItemId → Known
last_of (Some item) = (leaf_last item, true)
last_of None = (leaf_last (item_id 0), false)

abbrev pub bin_of : BinOp → Known → Known → Known
bin_of op x y = (node op x.0 y.0, x.1 && y.1)

abbrev pub expr_in : Places → (Data → Option Known) → Form → Option Known
expr_in places read (const n) = Some (leaf_const n, true)
expr_in places read sample = Some (leaf_sample, true)
expr_in places read serial = Some (leaf_serial, true)
expr_in places read (last name) = Some (last_of (item_in places name))
expr_in places read (bin op a b) =
    option_and_then (λ x. option_and_then (λ y. Some (bin_of op x y)) (read b)) (read a)

-- an expression of at most this depth
unfoldable pub expr_at : Places → ℕ → Data → Option Known
expr_at places zero d = None
expr_at places (suc n) d = option_and_then (expr_in places (expr_at places n)) (shape_of d)

abbrev pub expr_view : ReadExpr → Known
expr_view e = (tree e.expr, e.known)

abbrev pub GivesExpr : Result ReadExpr Fault → Option Known → Type 0
GivesExpr (Ok e) read = read ≡ Some (expr_view e)
GivesExpr (Err faults.Form) read = read ≡ None
GivesExpr (Err faults.OutOfMemory) read = Unit {0}

abbrev pub MakesExpr : Result ReadExpr Fault → Known → Type 0
MakesExpr (Ok e) known = known ≡ expr_view e
MakesExpr (Err e) known = e ≡ faults.OutOfMemory
