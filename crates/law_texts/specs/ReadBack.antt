-- A scenario as its canonical data is read by forms.
use Rattle.std.specs.Prelude.{◌≡◌, ℕ, List, map, Bool, true, if◌then◌else◌, Some, Ok}
use Rattle.std.specs.Str.{IsUtf8}
use Rattle.rt_base.specs.declared.ids.TogetherDecl.{TogetherDecl}
use Rattle.item_model.specs.declared.decl.ItemDecl.{ItemDecl}
use Rattle.txn_set.specs.declared.decl.TxnDecl.{TxnDecl}
use Rattle.step_script.specs.Scripts.{Operation}
use Rattle.step_script.specs.Shown.{Shown}
use Rattle.step_script.specs.Scenarios.{IsScenario}
use Rattle.serde_json.specs.Read.{read}
use Rattle.scenario_forms.specs.declared.txn.Times.{Times}
use Rattle.scenario_forms.specs.Ops.{KnownOp}
use Rattle.scenario_forms.specs.Items.{Table}
use Rattle.scenario_forms.specs.Txns.{Txn}
use Rattle.scenario_forms.specs.Sets.{Together}
use Rattle.scenario_forms.specs.Root.{Formed}
use Rattle.scenario_reader.specs.Reading.{data_of, scenario_of, scenario_in}
use Rattle.scenario_writer.specs.Canonical.{merged, Written, written, merged_ops, canonical}
use Rattle.scenario_writer.specs.Integers.{HasIntegers}

abbrev pub table : List (List ℕ) → List ItemDecl → Table
table names decls = record { names = names; decls = decls }

abbrev pub times_of : TxnDecl → Times
times_of t = record {
  prio = t.prio;
  period = t.period;
  offset = t.offset;
  deadline = t.deadline;
  steps = t.steps;
  quiet = t.quiet;
}

abbrev pub known_op : Operation → KnownOp
known_op op = (op, true)

abbrev pub read_txn : Written → Txn
read_txn w = record {
  times = times_of w.decl;
  reads = map Some w.decl.reads;
  writes = map Some w.decl.writes;
  releases = w.releases;
  samples = w.program.samples;
  script = map known_op (merged_ops w.program.ops);
}

abbrev pub read_set : TogetherDecl → Together
read_set g = record { items = map Some g.items; within = g.within }

abbrev pub all_written : Shown → List Written
all_written s = written s.names.txns s.txns s.programs s.releases

-- its parts, with each run of computes as one
abbrev pub read_forms : Bool → Shown → Formed
read_forms second s = record {
  version = if second then 2 else 1;
  items = table s.names.items s.items;
  txns = record { names = map (λ w. w.name) (all_written s); txns = map read_txn (all_written s) };
  sets = map read_set s.together;
}

-- its canonical data is that of the same scenario, with each run of computes as one
abbrev pub DataReadBack : Type 0
DataReadBack = (s : Shown) → IsScenario s → HasIntegers s → scenario_of (canonical s) ≡ Ok (merged s)

-- and so is a text with this data
abbrev pub TextsReadBack : Type 0
TextsReadBack = (s : Shown) (bytes : List ℕ) → IsScenario s → HasIntegers s → IsUtf8 bytes
    → read bytes ≡ Some (canonical s) → scenario_in (data_of bytes) ≡ Ok (merged s)
