-- What is amiss in a script, and in the releases of its jobs.
use Rattle.std.specs.Prelude.{ℕ, ◌+◌, ◌==◌, Bool, true, false, not, ◌&&◌, if◌then◌else◌, List, [], ◌∷◌, take, slice_get, slice_set, Option, Some, None}
use Rattle.std.specs.Option.{option_or, option_and_then}
use Rattle.std.specs.List.{list_any}
use Rattle.rt_base.specs.declared.ids.ItemId.{ItemId}
use Rattle.item_model.specs.declared.decl.ItemDecl.{ItemDecl}
use Rattle.item_model.specs.Kinds.{is_dated}
use Rattle.txn_set.specs.declared.decl.TxnDecl.{TxnDecl}
use Rattle.step_script.specs.Values.{Tree, leaf_const, leaf_sample, leaf_serial, leaf_last, node}
use Rattle.step_script.specs.Scripts.{Operation, read, write, compute, commit, quit}
use Rattle.step_script.specs.declared.releases.Releases.{Releases}
use Rattle.step_script.specs.declared.releases.Releases.TheVariants.{At, Jobs, Eager}
use Rattle.step_script.specs.Bodies.{closes}

-- no operations
abbrev pub is_empty : List Operation → Bool
is_empty [] = true
is_empty (op ∷ ops) = false

-- operations without a commit or quit among them
abbrev pub runs_on : List Operation → Bool
runs_on ops = not (is_empty ops) && not (list_any closes ops)

-- a read of this item
abbrev pub is_read_of : ℕ → Operation → Bool
is_read_of item (read i) = i.0 == item
is_read_of item (write i value) = false
is_read_of item (compute n) = false
is_read_of item commit = false
is_read_of item quit = false

-- the first item whose last value an expression takes, and which is not among those that were read
abbrev pub unread_in : (ℕ → Bool) → Tree → Option ItemId
unread_in was_read (leaf_const n) = None
unread_in was_read leaf_sample = None
unread_in was_read leaf_serial = None
unread_in was_read (leaf_last item) = if was_read item.0 then None else Some item
unread_in was_read (node op a b) = option_or (unread_in was_read a) (unread_in was_read b)

-- the same of an operation
abbrev pub unread_by : (ℕ → Bool) → Operation → Option ItemId
unread_by was_read (read item) = None
unread_by was_read (write item value) = unread_in was_read value
unread_by was_read (compute n) = None
unread_by was_read commit = None
unread_by was_read quit = None

-- marks of items, with that of the item that an operation reads
abbrev pub mark_of : List Bool → Operation → List Bool
mark_of marks (read item) = slice_set marks item.0 true
mark_of marks (write item value) = marks
mark_of marks (compute n) = marks
mark_of marks commit = marks
mark_of marks quit = marks

-- of the operation at a place, which comes after those before it
abbrev pub unread_at : List Operation → ℕ → Option ItemId
unread_at ops k = option_and_then (unread_by (λ i. list_any (is_read_of i) (take k ops))) (slice_get ops k)

-- a transaction that may write a sensor or derived item
abbrev pub is_updating : List ItemDecl → TxnDecl → Bool
is_updating decls t = list_any (λ i. is_dated decls i.0) t.writes

-- the first at this tick, and each one a period after the one before
abbrev pub in_step : ℕ → ℕ → List ℕ → Bool
in_step next period [] = true
in_step next period (tick ∷ ticks) = (tick == next) && in_step (tick + period) period ticks

-- at the offset and each period after it; no job that is eager is so
abbrev pub is_periodic : TxnDecl → Releases → Bool
is_periodic t (At ticks) = in_step t.offset t.period ticks
is_periodic t (Jobs n) = true
is_periodic t (Eager n) = n == 0
