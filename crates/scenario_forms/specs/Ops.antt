-- Operations of scripts.
use Rattle.std.specs.Prelude.{ℕ, Bool, true, false, List, codes, Option, Some, None, option_and_then, option_map, if◌then◌else◌}
use Rattle.std.specs.Str.{bytes_eq}
use Rattle.rt_base.specs.declared.ids.ItemId.{ItemId}
use Rattle.serde_json.specs.Data.{Data}
use Rattle.serde_json.specs.Find.{get, as_str}
use Rattle.serde_json.specs.View.{view}
use Rattle.step_script.specs.Scripts.{Operation, operation}
use Rattle.step_script.specs.Scripts as scripts
use Rattle.scenario_forms.specs.declared.ops.OpForm.{OpForm}
use Rattle.scenario_forms.specs.declared.ops.OpForm.TheVariants as forms
use Rattle.scenario_forms.specs.declared.ops.ReadOp.{ReadOp}
use Rattle.scenario_forms.specs.Fields.{Places, item_in, item_id, whole, sized}
use Rattle.scenario_forms.specs.Exprs.{Known, expr_at}

pub data Shape : Type 0 where
  reads : List ℕ → Shape
  writes : List ℕ → Data → Shape
  computes : ℕ → Shape
  commits : Shape
  quits : Shape

abbrev pub form_view : OpForm → Shape
form_view (forms.Read name) = reads name.now
form_view (forms.Write name value) = writes name.now (view value.now)
form_view (forms.Compute n) = computes n
form_view forms.Commit = commits
form_view forms.Quit = quits

abbrev pub op_word : List ℕ → Option Shape
op_word text = if bytes_eq text (codes "commit") then Some commits else
    (if bytes_eq text (codes "quit") then Some quits else None)

abbrev pub text_form : Data → Option Shape
text_form d = option_and_then op_word (as_str d)

abbrev pub read_form : Data → Option Shape
read_form d = if sized 1 d then option_map reads (option_and_then as_str (get (codes "read") d)) else None

abbrev pub write_form : Data → Option Shape
write_form d =
    if sized 2 d
    then option_and_then (λ name. option_map (writes name) (get (codes "value") d))
    (option_and_then as_str (get (codes "write") d))
    else None

abbrev pub compute_form : Data → Option Shape
compute_form d = if sized 1 d then option_map computes (option_and_then (whole 1 10000) (get (codes "compute") d))
    else None

abbrev pub first_of : {A : Type 0} → Option A → Option A → Option A
first_of (Some x) y = Some x
first_of None y = y

abbrev pub op_form : Data → Option Shape
op_form d = first_of (text_form d) (first_of (read_form d) (first_of (write_form d) (compute_form d)))

-- an operation, and whether all its names are known; item 0 stands for an unknown one
abbrev pub KnownOp : Type 0
KnownOp = Operation × Bool

abbrev pub read_of : Option ItemId → KnownOp
read_of (Some item) = (scripts.read item, true)
read_of None = (scripts.read (item_id 0), false)

abbrev pub write_of : Option ItemId → Known → KnownOp
write_of (Some item) value = (scripts.write item value.0, value.1)
write_of None value = (scripts.write (item_id 0) value.0, false)

abbrev pub op_of : Places → Shape → Option KnownOp
op_of places (reads name) = Some (read_of (item_in places name))
op_of places (writes name d) = option_map (write_of (item_in places name)) (expr_at places 32 d)
op_of places (computes n) = Some (scripts.compute n, true)
op_of places commits = Some (scripts.commit, true)
op_of places quits = Some (scripts.quit, true)

abbrev pub op_in : Places → Data → Option KnownOp
op_in places d = option_and_then (op_of places) (op_form d)

abbrev pub op_view : ReadOp → KnownOp
op_view r = (operation r.op, r.known)
