-- Names that are no item's, in reading order.
use Rattle.std.specs.Prelude.{ℕ, ◌+◌, Bool, not, List, [], ◌∷◌, Option, Some, None, option_map, is_none}
use Rattle.std.specs.Option.{option_or}
use Rattle.std.specs.List.{position}
use Rattle.rt_base.specs.declared.ids.ItemId.{ItemId}
use Rattle.scenario_forms.specs.declared.error.Place.{Place}
use Rattle.scenario_forms.specs.declared.error.Place.TheVariants.{Element, SetElement}
use Rattle.scenario_forms.specs.declared.error.TxnMember.TheVariants as members
use Rattle.scenario_forms.specs.declared.ops.ReadOp.{ReadOp}
use Rattle.scenario_forms.specs.Ops.{KnownOp}
use Rattle.scenario_forms.specs.Txns.{Txn}
use Rattle.scenario_forms.specs.Sets.{Together}
use Rattle.scenario_forms.specs.Root.{Formed}

abbrev pub is_unknown : Option ItemId → Bool
is_unknown name = is_none name

-- an operation with a name that is no item's, in its expression too
abbrev pub is_unknown_op : KnownOp → Bool
is_unknown_op op = not op.1

abbrev pub is_unknown_read : ReadOp → Bool
is_unknown_read op = not op.known

-- the first of a transaction's reads, then of its writes, then of its script
abbrev pub unknown_in : ℕ → Txn → Option Place
unknown_in i t =
    option_or (option_map (Element i members.Reads) (position is_unknown t.reads))
    (option_or (option_map (Element i members.Writes) (position is_unknown t.writes))
    (option_map (Element i members.Script) (position is_unknown_op t.script)))

-- of transactions, the first of which has this number
abbrev pub unknown_from : ℕ → List Txn → Option Place
unknown_from i [] = None
unknown_from i (t ∷ ts) = option_or (unknown_in i t) (unknown_from (i + 1) ts)

-- of relative sets, the first of which has this number
abbrev pub unknown_set_from : ℕ → List Together → Option Place
unknown_set_from i [] = None
unknown_set_from i (s ∷ ss) =
    option_or (option_map (SetElement i) (position is_unknown s.items)) (unknown_set_from (i + 1) ss)

-- the place of the first name that is no item's; the relative sets come last
abbrev pub unknown_name : Formed → Option Place
unknown_name f = option_or (unknown_from 0 f.txns.txns) (unknown_set_from 0 f.sets)
