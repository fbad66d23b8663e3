-- The work of one job, with the items that it declared.
use Rattle.std.specs.Prelude.{ℕ, ◌<◌, ◌≤◌, ◌==◌, Bool, false, not, ◌&&◌, List, Option, IsTrue}
use Rattle.std.specs.List.{find, list_any, AllPairs}
use Rattle.std.specs.Option.{option_map_or}
use Rattle.rt_base.specs.declared.ids.ItemId.{ItemId}
use Rattle.item_model.specs.declared.decl.ItemDecl.{ItemDecl}
use Rattle.item_model.specs.Kinds.{is_dated}
use Rattle.item_model.specs.Work.{Work, read_of, has_written, is_expired}

-- the declared reads and writes, and what was read from outside and written
pub record Job : Type 0 where
  pub may_read : List ItemId
  pub may_write : List ItemId
  pub work : Work

-- the items rise, so that none comes twice
abbrev pub AreInItemOrder : List ItemId → Type 0
AreInItemOrder items = AllPairs (λ a b. a.0 < b.0) items

-- no item of these that meets the test comes before this one in item order
abbrev pub IsLeastOf : (ℕ → Bool) → List ItemId → ℕ → Type 0
IsLeastOf test items item = (other : ℕ) → IsTrue (list_any (λ i. i.0 == other) items) → IsTrue (test other) → item ≤ other

-- whether a sensor or derived item was not written
abbrev pub is_unwritten : List ItemDecl → Work → ℕ → Bool
is_unwritten decls work item = is_dated decls item && not (has_written work item)

-- the first of these among the declared writes
abbrev pub unwritten_of : List ItemDecl → List ItemId → Work → Option ItemId
unwritten_of decls writes work = find (λ i. is_unwritten decls work i.0) writes

-- whether an item was read from outside and is past its validity at a tick
abbrev pub is_past : List ItemDecl → Work → ℕ → ℕ → Bool
is_past decls work tick item = option_map_or (is_expired decls tick) (read_of work item) false
