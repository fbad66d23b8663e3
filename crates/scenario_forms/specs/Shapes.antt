-- One level of an expression.
use Rattle.std.specs.Prelude.{ℕ, ℤ, List, codes, if◌then◌else◌, Option, Some, None, option_map, option_and_then}
use Rattle.std.specs.Str.{bytes_eq}
use Rattle.serde_json.specs.Data.{Data, number, string, object, Items, no_items, item, Members, no_members, member}
use Rattle.serde_json.specs.Find.{as_i64, as_str, as_array, as_object}
use Rattle.serde_json.specs.View.{view}
use Rattle.step_script.specs.declared.expr.BinOp.{BinOp}
use Rattle.step_script.specs.declared.expr.BinOp.TheVariants.{Add, Sub, Mul, Div, Min, Max}
use Rattle.scenario_forms.specs.declared.shape.Shape.{Shape}
use Rattle.scenario_forms.specs.declared.shape.Shape.TheVariants.{Const, Sample, Serial, Last, Bin}

pub data Form : Type 0 where
  const : ℤ → Form
  sample : Form
  serial : Form
  last : List ℕ → Form
  bin : BinOp → Data → Data → Form

abbrev pub shape_view : Shape → Form
shape_view (Const n) = const n
shape_view Sample = sample
shape_view Serial = serial
shape_view (Last name) = last name.now
shape_view (Bin op a b) = bin op (view a.now) (view b.now)

abbrev pub op_word : List ℕ → Option BinOp
op_word text = if bytes_eq text (codes "add") then Some Add else
    (if bytes_eq text (codes "sub") then Some Sub else
    (if bytes_eq text (codes "mul") then Some Mul else
    (if bytes_eq text (codes "div") then Some Div else
    (if bytes_eq text (codes "min") then Some Min else (if bytes_eq text (codes "max") then Some Max else None)))))

abbrev pub word_shape : List ℕ → Option Form
word_shape text = if bytes_eq text (codes "sample") then Some sample else
    (if bytes_eq text (codes "serial") then Some serial else None)

-- one member, and no other
abbrev pub one_of : Members → Option (List ℕ × Data)
one_of no_members = None
one_of (member k d no_members) = Some (k, d)
one_of (member k d (member l e ms)) = None

abbrev pub only_member : Data → Option (List ℕ × Data)
only_member d = option_and_then one_of (as_object d)

-- two items, and no other
abbrev pub two_of : Items → Option (Data × Data)
two_of no_items = None
two_of (item a no_items) = None
two_of (item a (item b no_items)) = Some (a, b)
two_of (item a (item b (item c ds))) = None

abbrev pub two_items : Data → Option (Data × Data)
two_items d = option_and_then two_of (as_array d)

abbrev pub named_shape : List ℕ → Data → Option Form
named_shape name d = if bytes_eq name (codes "last") then option_map last (as_str d) else option_and_then
    (λ op. option_map (λ p. bin op p.0 p.1) (two_items d)) (op_word name)

abbrev pub member_shape : Option (List ℕ × Data) → Option Form
member_shape None = None
member_shape (Some p) = named_shape p.0 p.1

abbrev pub shape_of : Data → Option Form
shape_of (number n) = option_map const (as_i64 n)
shape_of (string s) = word_shape s
shape_of (object ms) = member_shape (only_member (object ms))
shape_of _ = None
