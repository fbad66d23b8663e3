-- The canonical text of a scenario, as JSON data. The members of an object stand in byte order of their names.
use Rattle.std.specs.Prelude.{ℕ, ◌+◌, ℤ, List, [], ◌∷◌, length, map, codes, slice_index_or, nat_lt, ◌||◌, Bool, if◌then◌else◌, Option, Some, None, option_map}
use Rattle.std.specs.List.{list_any}
use Rattle.rt_base.specs.declared.ids.ItemId.{ItemId}
use Rattle.rt_base.specs.declared.ids.TogetherDecl.{TogetherDecl}
use Rattle.item_model.specs.declared.decl.ItemDecl.{ItemDecl}
use Rattle.item_model.specs.declared.decl.ItemKind.{ItemKind}
use Rattle.item_model.specs.declared.decl.ItemKind.TheVariants.{Sensor, Derived, State}
use Rattle.item_model.specs.Kinds.{validity_of_kind}
use Rattle.txn_set.specs.declared.decl.TxnDecl.{TxnDecl}
use Rattle.step_script.specs.declared.expr.BinOp.{BinOp}
use Rattle.step_script.specs.declared.expr.BinOp.TheVariants.{Add, Sub, Mul, Div, Min, Max}
use Rattle.step_script.specs.Values.{Tree, leaf_const, leaf_sample, leaf_serial, leaf_last, node}
use Rattle.step_script.specs.Scripts.{Operation, read, write, compute, commit, quit, Program}
use Rattle.step_script.specs.declared.releases.Releases.{Releases}
use Rattle.step_script.specs.declared.releases.Releases.TheVariants.{At, Jobs, Eager}
use Rattle.serde_json.specs.Data.{Data, number, string, array, object, unsigned, no_items, item, Members, no_members, member}
use Rattle.serde_json.specs.Find.{of_integer}
use Rattle.serde_json.specs.View.{items_of}
use Rattle.step_script.specs.Shown.{Shown}

-- Parts.

abbrev pub whole : ℕ → Data
whole n = number (unsigned n)

abbrev pub integer : ℤ → Data
integer z = number (of_integer z)

abbrev pub word : List ℕ → Data
word text = string text

abbrev pub array_of : List Data → Data
array_of ds = array (items_of ds)

-- an object with one member
abbrev pub one : List ℕ → Data → Data
one name d = object (member name d no_members)

-- a member that may be absent
abbrev pub optional : List ℕ → Option Data → Members → Members
optional name None ms = ms
optional name (Some d) ms = member name d ms

-- an item by its name
abbrev pub item_word : List (List ℕ) → ItemId → Data
item_word names i = word (slice_index_or names i.0 [])

abbrev pub item_words : List (List ℕ) → List ItemId → Data
item_words names ids = array_of (map (item_word names) ids)

-- Scripts.

abbrev pub op_word : BinOp → List ℕ
op_word Add = codes "add"
op_word Sub = codes "sub"
op_word Mul = codes "mul"
op_word Div = codes "div"
op_word Min = codes "min"
op_word Max = codes "max"

abbrev pub expr_data : List (List ℕ) → Tree → Data
expr_data names (leaf_const n) = integer n
expr_data names leaf_sample = word (codes "sample")
expr_data names leaf_serial = word (codes "serial")
expr_data names (leaf_last i) = one (codes "last") (item_word names i)
expr_data names (node op a b) =
    one (op_word op) (array (item (expr_data names a) (item (expr_data names b) no_items)))

abbrev pub write_data : Data → Data → Data
write_data i value = object (member (codes "value") value (member (codes "write") i no_members))

abbrev pub op_data : List (List ℕ) → Operation → Data
op_data names (read i) = one (codes "read") (item_word names i)
op_data names (write i value) = write_data (item_word names i) (expr_data names value)
op_data names (compute n) = one (codes "compute") (whole n)
op_data names commit = word (codes "commit")
op_data names quit = word (codes "quit")

-- an operation before others, where two computes are one
abbrev pub joined : Operation → List Operation → List Operation
joined (compute m) (compute n ∷ ops) = compute (m + n) ∷ ops
joined op ops = op ∷ ops

-- each longest run of computes as one
abbrev pub merged_ops : List Operation → List Operation
merged_ops [] = []
merged_ops (op ∷ ops) = joined op (merged_ops ops)

abbrev pub script_data : List (List ℕ) → List Operation → Data
script_data names ops = array_of (map (op_data names) (merged_ops ops))

-- Items.

abbrev pub kind_word : ItemKind → List ℕ
kind_word (Sensor validity) = codes "sensor"
kind_word (Derived validity) = codes "derived"
kind_word State = codes "state"

abbrev pub item_data : List ℕ → ItemDecl → Data
item_data name decl = object
    (member (codes "kind") (word (kind_word decl.kind))
    (member (codes "name") (word name)
    (optional (codes "validity") (option_map whole (validity_of_kind decl.kind))
    (member (codes "value") (integer decl.initial) no_members))))

-- Transactions.

-- of the three forms of releases the one that stands
abbrev pub ticks_data : Releases → Option Data
ticks_data (At ticks) = Some (array_of (map whole ticks))
ticks_data other = None

abbrev pub jobs_data : Releases → Option Data
jobs_data (Jobs n) = Some (whole n)
jobs_data other = None

abbrev pub eager_data : Releases → Option Data
eager_data (Eager n) = Some (whole n)
eager_data other = None

abbrev pub quiet_data : Bool → ℕ → Option Data
quiet_data second quiet = if second then Some (whole quiet) else None

-- a transaction with its name, its script and its releases
pub record Written : Type 0 where
  pub name : List ℕ
  pub decl : TxnDecl
  pub program : Program
  pub releases : Releases

abbrev pub txn_data : Bool → List (List ℕ) → Written → Data
txn_data second names t = object
    (member (codes "deadline") (whole t.decl.deadline)
    (optional (codes "eager") (eager_data t.releases)
    (optional (codes "jobs") (jobs_data t.releases)
    (member (codes "name") (word t.name)
    (member (codes "offset") (whole t.decl.offset)
    (member (codes "period") (whole t.decl.period)
    (member (codes "priority") (whole t.decl.prio)
    (optional (codes "quiet") (quiet_data second t.decl.quiet)
    (member (codes "reads") (item_words names t.decl.reads)
    (optional (codes "releases") (ticks_data t.releases)
    (member (codes "samples") (array_of (map integer t.program.samples))
    (member (codes "script") (script_data names t.program.ops)
    (member (codes "steps") (whole t.decl.steps)
    (member (codes "writes") (item_words names t.decl.writes) no_members))))))))))))))

-- Relative sets.

abbrev pub set_data : List (List ℕ) → TogetherDecl → Data
set_data names g =
    object (member (codes "items") (item_words names g.items) (member (codes "within") (whole g.within) no_members))

-- The scenario.

abbrev pub items_data : List (List ℕ) → List ItemDecl → List Data
items_data (name ∷ names) (decl ∷ decls) = item_data name decl ∷ items_data names decls
items_data _ _ = []

-- each transaction with what belongs to it
abbrev pub written : List (List ℕ) → List TxnDecl → List Program → List Releases → List Written
written (name ∷ names) (decl ∷ decls) (program ∷ programs) (r ∷ rs) =
    record { name = name; decl = decl; program = program; releases = r } ∷ written names decls programs rs
written _ _ _ _ = []

-- some transaction has quiet steps, or there is a relative set
abbrev pub is_second : Shown → Bool
is_second s = list_any (λ t. nat_lt 0 t.quiet) s.txns || nat_lt 0 (length s.together)

abbrev pub sets_data : Bool → List (List ℕ) → List TogetherDecl → Option Data
sets_data second names sets = if second then Some (array_of (map (set_data names) sets)) else None

abbrev pub txns_in : Bool → Shown → List Data
txns_in second s = map (txn_data second s.names.items) (written s.names.txns s.txns s.programs s.releases)

-- its data as a text of version 1 or 2
abbrev pub canonical_as : Bool → Shown → Data
canonical_as second s = object
    (member (codes "items") (array_of (items_data s.names.items s.items))
    (optional (codes "together") (sets_data second s.names.items s.together)
    (member (codes "transactions") (array_of (txns_in second s))
    (member (codes "version") (whole (if second then 2 else 1)) no_members))))

unfoldable pub canonical : Shown → Data
canonical s = canonical_as (is_second s) s

-- A scenario whose scripts have each longest run of computes as one.

abbrev pub merged_program : Program → Program
merged_program p = record { ops = merged_ops p.ops; samples = p.samples; items = p.items }

abbrev pub merged : Shown → Shown
merged s = record {
  names = s.names;
  items = s.items;
  txns = s.txns;
  together = s.together;
  programs = map merged_program s.programs;
  releases = s.releases;
  room = s.room;
}
