-- The transactions of a scenario.
use Rattle.std.specs.Prelude.{ℕ, ℤ, ◌^◌, ◌&&◌, ◌||◌, List, [], ◌∷◌, ◌++◌, length, map, codes, Bool, if◌then◌else◌, Option, Some, None, Result, Ok, is_none, is_some}
use Rattle.std.specs.Str.{bytes_eq}
use Rattle.name_table.specs.Places.{place_in}
use Rattle.rt_base.specs.declared.ids.ItemId.{ItemId}
use Rattle.serde_json.specs.Data.{Data}
use Rattle.serde_json.specs.Find.{get}
use Rattle.scenario_forms.specs.declared.error.Place.{Place}
use Rattle.scenario_forms.specs.declared.error.Place.TheVariants as places
use Rattle.scenario_forms.specs.declared.error.TxnMember.{TxnMember}
use Rattle.scenario_forms.specs.declared.error.TxnMember.TheVariants as members
use Rattle.scenario_forms.specs.declared.error.FormError.{FormError}
use Rattle.scenario_forms.specs.declared.arrays.Owner.TheVariants as owners
use Rattle.step_script.specs.declared.releases.Releases.{Releases}
use Rattle.step_script.specs.declared.releases.Releases.TheVariants.{At, Jobs, Eager}
use Rattle.scenario_forms.specs.declared.txn.Times.{Times}
use Rattle.scenario_forms.specs.declared.txn.ReadTxn.{ReadTxn}
use Rattle.scenario_forms.specs.declared.txn.TxnTable.{TxnTable}
use Rattle.scenario_forms.specs.Reading.{◌>>=◌, needed, member_at, member_or, array_at, all_at}
use Rattle.scenario_forms.specs.Fields.{Places, whole, integer, new_name, no_others, formed_unit}
use Rattle.scenario_forms.specs.Ops.{KnownOp, op_view, op_in}
use Rattle.scenario_forms.specs.Arrays.{element_place, named}

abbrev pub is_number_member : List ℕ → Bool
is_number_member k = bytes_eq k (codes "name") || bytes_eq k (codes "priority") || bytes_eq k (codes "period") ||
    bytes_eq k (codes "offset") || bytes_eq k (codes "deadline") || bytes_eq k (codes "steps")

abbrev pub is_array_member : List ℕ → Bool
is_array_member k = bytes_eq k (codes "reads") || bytes_eq k (codes "writes") || bytes_eq k (codes "releases") ||
    bytes_eq k (codes "jobs") || bytes_eq k (codes "eager") || bytes_eq k (codes "samples") || bytes_eq k
    (codes "script")

-- quiet is a member in version 2 alone
abbrev pub is_txn_member : Bool → List ℕ → Bool
is_txn_member second k = is_number_member k || is_array_member k || (second && bytes_eq k (codes "quiet"))

unfoldable pub times_at : ℕ → Data → Result Times FormError
times_at i d = do
  prio ← member_at (places.TxnMember i members.Priority) (whole 0 (2 ^ 31)) (codes "priority") d
  period ← member_at (places.TxnMember i members.Period) (whole 0 (2 ^ 40)) (codes "period") d
  offset ← member_or 0 (places.TxnMember i members.Offset) (whole 0 (2 ^ 40)) (codes "offset") d
  deadline ← member_or period (places.TxnMember i members.Deadline) (whole 0 (2 ^ 40)) (codes "deadline") d
  steps ← member_at (places.TxnMember i members.Steps) (whole 0 (2 ^ 40)) (codes "steps") d
  quiet ← member_or 0 (places.TxnMember i members.Quiet) (whole 0 (2 ^ 40)) (codes "quiet") d
  Ok (record { prio = prio; period = period; offset = offset; deadline = deadline; steps = steps; quiet = quiet })

-- that there is no such member
abbrev pub absent : Place → List ℕ → Data → Result (Unit {0}) FormError
absent place name d = needed place (if is_none (get name d) then Some formed_unit else None)

unfoldable pub fixed_at : ℕ → Data → Result Releases FormError
fixed_at i d = do
  values ← array_at (places.TxnMember i members.Releases) (codes "releases") d
  ticks ← all_at (element_place (owners.Txn i members.Releases)) (whole 0 (2 ^ 53)) values
  no_jobs ← absent (places.TxnMember i members.Jobs) (codes "jobs") d
  no_eager ← absent (places.TxnMember i members.Eager) (codes "eager") d
  Ok (At ticks)

unfoldable pub counted_at : ℕ → Data → Result Releases FormError
counted_at i d = do
  count ← member_at (places.TxnMember i members.Jobs) (whole 0 (2 ^ 31)) (codes "jobs") d
  no_eager ← absent (places.TxnMember i members.Eager) (codes "eager") d
  Ok (Jobs count)

unfoldable pub eager_at : ℕ → Data → Result Releases FormError
eager_at i d = do
  count ← member_at (places.TxnMember i members.Eager) (whole 0 (2 ^ 31)) (codes "eager") d
  Ok (Eager count)

-- at most one of the three; none where none stands
unfoldable pub releases_at : ℕ → Data → Result Releases FormError
releases_at i d =
    if is_some (get (codes "releases") d)
    then fixed_at i d
    else (if is_some (get (codes "jobs") d) then counted_at i d else
    (if is_some (get (codes "eager") d) then eager_at i d else Ok (At [])))

unfoldable pub names_at : Places → ℕ → TxnMember → List ℕ → Data → Result (List (Option ItemId)) FormError
names_at items i member name d = do
  values ← array_at (places.TxnMember i member) name d
  all_at (element_place (owners.Txn i member)) (named items) values

unfoldable pub samples_at : ℕ → Data → Result (List ℤ) FormError
samples_at i d = do
  values ← array_at (places.TxnMember i members.Samples) (codes "samples") d
  all_at (element_place (owners.Txn i members.Samples)) integer values

unfoldable pub script_at : Places → ℕ → Data → Result (List KnownOp) FormError
script_at items i d = do
  values ← array_at (places.TxnMember i members.Script) (codes "script") d
  all_at (element_place (owners.Txn i members.Script)) (op_in items) values

-- a transaction as it was read
pub record Txn : Type 0 where
  pub times : Times
  pub reads : List (Option ItemId)
  pub writes : List (Option ItemId)
  pub releases : Releases
  pub samples : List ℤ
  pub script : List KnownOp

abbrev pub txn_view : ReadTxn → Txn
txn_view t = record {
  times = t.times;
  reads = t.reads.items;
  writes = t.writes.items;
  releases = t.releases;
  samples = t.samples.items;
  script = map op_view t.script.items;
}

unfoldable pub txn_at : Places → ℕ → Data → Result Txn FormError
txn_at items i d = do
  times ← times_at i d
  reads ← names_at items i members.Reads (codes "reads") d
  writes ← names_at items i members.Writes (codes "writes") d
  releases ← releases_at i d
  samples ← samples_at i d
  script ← script_at items i d
  Ok (record { times = times; reads = reads; writes = writes; releases = releases; samples = samples; script = script })

-- the name, after the object itself
unfoldable pub txn_name : Bool → Places → ℕ → Data → Result (List ℕ) FormError
txn_name second taken i d = do
  formed ← needed (places.Txn i) (if no_others (is_txn_member second) d then Some formed_unit else None)
  member_at (places.TxnMember i members.Name) (new_name taken) (codes "name") d

-- transactions by their names, each of which has its place
pub record Txns : Type 0 where
  pub names : List (List ℕ)
  pub txns : List Txn

abbrev pub no_txns_yet : Txns
no_txns_yet = record { names = []; txns = [] }

abbrev pub with_txn : Txns → List ℕ → Txn → Txns
with_txn t name x = record { names = t.names ++ name ∷ []; txns = t.txns ++ x ∷ [] }

-- one more transaction
unfoldable pub txn_step : Bool → Places → Txns → Data → Result Txns FormError
txn_step second items t d = txn_name second (place_in t.names) (length t.names) d >>= λ name. txn_at items
    (length t.names) d >>= λ x. Ok (with_txn t name x)

abbrev pub txns_view : TxnTable → Txns
txns_view t = record { names = t.names; txns = map txn_view t.txns.items }
