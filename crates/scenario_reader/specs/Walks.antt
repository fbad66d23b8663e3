-- How a walk over the operations of a script goes on, by what it keeps of those before.
use Rattle.std.specs.Prelude.{◌≡◌, ℕ, ◌-◌, ◌==◌, Bool, true, false, not, ◌&&◌, ◌||◌, List, [], ◌∷◌, length, replicate, slice_set, slice_index_or}
use Rattle.std.specs.List.{list_all}
use Rattle.rt_base.specs.declared.ids.ItemId.{ItemId}
use Rattle.item_model.specs.declared.decl.ItemDecl.{ItemDecl}
use Rattle.item_model.specs.Kinds.{is_dated}
use Rattle.txn_set.specs.declared.decl.TxnDecl.{TxnDecl}
use Rattle.step_script.specs.declared.script.Script.{Script}
use Rattle.step_script.specs.Scripts.{Operation, read, write, compute, commit, quit, width, program_of}
use Rattle.step_script.specs.Bodies.{is_long}
use Rattle.scenario_reader.specs.declared.walk.Walk.{Walk}

-- with these items marked besides
abbrev pub marked : List Bool → List ItemId → List Bool
marked marks [] = marks
marked marks (i ∷ is) = marked (slice_set marks i.0 true) is

abbrev pub none_of : List Bool → List Bool
none_of marks = replicate (length marks) false

abbrev pub fresh : ℕ → Walk
fresh items = record {
  reads = replicate items false;
  writes = replicate items false;
  written = replicate items false;
  left = 0;
  closed = false;
}

abbrev pub begun : Walk → TxnDecl → Walk
begun w t = record {
  reads = marked (none_of w.reads) t.reads;
  writes = marked (none_of w.writes) t.writes;
  written = none_of w.written;
  left = t.quiet;
  closed = false;
}

abbrev pub has : List Bool → ItemId → Bool
has marks i = slice_index_or marks i.0 false

abbrev pub may_ask : List ItemDecl → TxnDecl → Walk → Operation → Bool
may_ask decls t w (read i) = has w.reads i && (w.left == 0)
may_ask decls t w (write i value) = has w.writes i && (w.left == 0)
may_ask decls t w (compute n) = true
may_ask decls t w commit = list_all (λ i. not (is_dated decls i.0) || slice_index_or w.written i.0 false) t.writes
may_ask decls t w quit = true

abbrev pub may_stand : List ItemDecl → TxnDecl → Walk → Operation → Bool
may_stand decls t w op = not w.closed && may_ask decls t w op

abbrev pub after : Walk → Operation → Walk
after w (read i) = record w { left = w.left - 1 }
after w (write i value) = record w { written = slice_set w.written i.0 true; left = w.left - 1 }
after w (compute n) = record w { left = w.left - width (compute n) }
after w commit = record w { left = w.left - 1; closed = true }
after w quit = record w { left = w.left - 1; closed = true }

-- its marks are of so many items
pub record IsSized (items : ℕ) (w : Walk) : Type 0 where
  pub reads : length w.reads ≡ items
  pub writes : length w.writes ≡ items
  pub written : length w.written ≡ items

-- what it was made of is too long
abbrev pub is_long_made : Script → Bool
is_long_made s = is_long (program_of s)
