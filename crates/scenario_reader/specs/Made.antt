-- The scenario that forms declare.
use Rattle.std.specs.Prelude.{◌≡◌, ℕ, ◌≤◌, ◌<◌, ◌^◌, ◌==◌, nat_lt, if◌then◌else◌, true, false, Bool, List, [], length, map, Option, Some, None}
use Rattle.std.specs.List.{All, filter, list_any, list_all, range_with_len}
use Rattle.rt_base.specs.declared.ids.ItemId.{ItemId}
use Rattle.rt_base.specs.declared.ids.TogetherDecl.{TogetherDecl}
use Rattle.txn_set.specs.declared.decl.TxnDecl.{TxnDecl}
use Rattle.step_script.specs.Scripts.{Operation, Program, is_good, IsTold}
use Rattle.step_script.specs.declared.whole.Scenario.{Scenario}
use Rattle.step_script.specs.Shown.{Shown}
use Rattle.step_script.specs.Releases.{total_jobs}
use Rattle.step_script.specs.Scenarios.{HasTextTimes, IsTextOp}
use Rattle.scenario_forms.specs.Fields.{item_id}
use Rattle.scenario_forms.specs.Ops.{KnownOp}
use Rattle.scenario_forms.specs.Txns.{Txn, Txns}
use Rattle.scenario_forms.specs.Sets.{Together}
use Rattle.scenario_forms.specs.Root.{Formed}

-- whether a name is this item's
abbrev pub is_item : ℕ → Option ItemId → Bool
is_item i None = false
is_item i (Some named) = named.0 == i

-- whether the names have this item's among them
abbrev pub is_named : List (Option ItemId) → ℕ → Bool
is_named names i = list_any (is_item i) names

-- the named ones of so many items, in item order without repeats
abbrev pub in_item_order : ℕ → List (Option ItemId) → List ItemId
in_item_order items names = map item_id (filter (is_named names) (range_with_len 0 items))

-- the number of a named item below this one
abbrev pub number_below : ℕ → Option ItemId → Option ℕ
number_below items None = None
number_below items (Some i) = if nat_lt i.0 items then Some i.0 else None

-- the declaration of a transaction over so many items
abbrev pub decl_of : ℕ → Txn → TxnDecl
decl_of items t = record {
  prio = t.times.prio;
  period = t.times.period;
  offset = t.times.offset;
  deadline = t.times.deadline;
  steps = t.times.steps;
  quiet = t.times.quiet;
  reads = in_item_order items t.reads;
  writes = in_item_order items t.writes;
}

abbrev pub group_of : ℕ → Together → TogetherDecl
group_of items g = record { items = in_item_order items g.items; within = g.within }

-- the operations as they were read, without the word whether their names are known
abbrev pub ops_of : List KnownOp → List Operation
ops_of script = map (λ op. op.0) script

abbrev pub program_from : ℕ → Txn → Program
program_from items t = record { ops = ops_of t.script; samples = t.samples; items = items }

-- the scenario, whose room is not known yet
abbrev pub made_of : Formed → Shown
made_of f = record {
  names = record { items = f.items.names; txns = f.txns.names };
  items = f.items.decls;
  txns = map (decl_of (length f.items.decls)) f.txns.txns;
  together = map (group_of (length f.items.decls)) f.sets;
  programs = map (program_from (length f.items.decls)) f.txns.txns;
  releases = map (λ t. t.releases) f.txns.txns;
  room = 0;
}

abbrev pub with_room : ℕ → Shown → Shown
with_room room s = record s { room = room }

-- each script stands as after begin(0)
abbrev pub IsBegun : Scenario → Type 0
IsBegun s = All (λ script. IsTold script 0 []) s.scripts

-- an operation within the ranges of a text, and good over so many items if its names are known
pub record IsGoodOp (items : ℕ) (op : KnownOp) : Type 0 where
  pub good : op.1 ≡ true → is_good items op.0 ≡ true
  pub text : IsTextOp op.0

-- a transaction within the ranges of a text, with such operations
pub record IsGoodTxn (items : ℕ) (t : Txn) : Type 0 where
  pub times : HasTextTimes (decl_of items t)
  pub script : All (IsGoodOp items) t.script

-- each transaction has an id, and the jobs of all are counted in 64 bits
pub record AreCounted (t : Txns) : Type 0 where
  pub few : length t.txns ≤ 2 ^ 32
  pub jobs : total_jobs (map (λ x. x.releases) t.txns) < 2 ^ 64

-- a transaction whose script is good over so many items
abbrev pub HasGoodScript : ℕ → Txn → Type 0
HasGoodScript items t = list_all (is_good items) (ops_of t.script) ≡ true
